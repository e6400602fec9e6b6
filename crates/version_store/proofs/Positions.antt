-- Entries by their positions: what is found at one, and what is there after one was put or removed.
use Rattle.std.proofs.Common.{◌≡◌, ℕ, zero, suc, ◌+◌, ◌<◌, Bool, true, false, cond, Some, None, List, [], ◌∷◌, ◌++◌, length, get_or, set, take, drop, refl, sym, ap, ◌∙◌, arith}
use Rattle.std.specs.Prelude.{◌&&◌, not, T}
use Rattle.std.specs.List.{insert, remove}
use Rattle.std.specs.List.Sorted.{IsNonDecreasingBy}
use Rattle.std.specs.Ordering.{eq_by_cmp, is_eq, is_lt, ordering_index, ordering_reverse}
use Rattle.std.specs.declared.cmp.Ordering.{Ordering}
use Rattle.std.specs.declared.cmp.Ordering.TheVariants.{Less, Equal, Greater}
use Rattle.std.specs.FinMap.Entries.{below_all, by_order, find, put, where_key}
use Rattle.std.proofs.lemmas.Cmp.{tied_itself}
use Rattle.std.proofs.lemmas.List.Sorted.{searchable_from_sorted}
use Rattle.circ_records.specs.Keys.{key_cmp, key_cmp_total}
use Rattle.circ_records.specs.declared.key.Key.{Key}
use Rattle.version_store.specs.Devices.Positions.{IsAt, IsGap, Rise, all_marked, marked}
use Rattle.version_store.specs.declared.entry.StoredEntry.{StoredEntry}

pub first : (a b : Bool) → T (a && b) → T a
first true b p = tt
first false b p = p

pub second : (a b : Bool) → T (a && b) → T b
second true b p = p
second false b p = absurd p

pub less : (o : Ordering) → T (is_lt o) → o ≡ Less
less Less p = refl
less Equal p = absurd p
less Greater p = absurd p

to_greater : (j k : Key) → key_cmp j k ≡ Less → key_cmp k j ≡ Greater
to_greater j k h = key_cmp_total.antisymm k j ∙ ap ordering_reverse h

to_less : (j k : Key) → key_cmp j k ≡ Greater → key_cmp k j ≡ Less
to_less j k h = key_cmp_total.antisymm k j ∙ ap ordering_reverse h

ties : (j k : Key) → j ≡ k → key_cmp k j ≡ Equal
ties j k e = ap (λ q. key_cmp k q) e ∙ tied_itself key_cmp_total k

-- the keys with which a key doesn't tie stay where it is removed
abbrev pub others : Key → Key → Bool
others k x = not (eq_by_cmp key_cmp k x)

not_less : (o : Ordering) → o ≡ Less → is_lt (ordering_reverse o) ≡ false
not_less o e = ap (λ x. is_lt (ordering_reverse x)) e

module _ {X : Type 0} where
  -- ---- keys that rise
  below_at : (x : Key) (es : List (Key × X)) (i : ℕ) (d : Key × X) → T (below_all key_cmp x es) → i < length es → key_cmp x (get_or es i d).0 ≡ Less
  below_at x [] i d h lt = absurd (omega (arith, lt))
  below_at x (e ∷ es) zero d h lt = less (key_cmp x e.0) (first _ _ h)
  below_at x (e ∷ es) (suc i) d h lt = below_at x es i d (second _ _ h) (omega (arith, lt))

  rising_at : (es : List (Key × X)) (i j : ℕ) (d : Key × X) → Rise es → i < j → j < length es → key_cmp (get_or es i d).0 (get_or es j d).0 ≡ Less
  rising_at [] i j d s lt within = absurd (omega (arith, within))
  rising_at (e ∷ es) zero zero d s lt within = absurd (omega (arith, lt))
  rising_at (e ∷ es) zero (suc j) d s lt within = below_at e.0 es j d (first _ _ s) (omega (arith, within))
  rising_at (e ∷ es) (suc i) zero d s lt within = absurd (omega (arith, lt))
  rising_at (e ∷ es) (suc i) (suc j) d s lt within = rising_at es i j d (second _ _ s) (omega (arith, lt)) (omega (arith, within))

  -- ---- a search
  pub searchable : (es : List (Key × X)) → Rise es → (k : Key) → IsNonDecreasingBy (λ (e : Key × X). ordering_index (key_cmp e.0 k)) es
  searchable es s k = searchable_from_sorted key_cmp_total (λ (e : Key × X). e.0) es k
      (λ i d low high. ap is_lt (key_cmp_total.antisymm (get_or es (i + 1) d).0 (get_or es i d).0) ∙ not_less (key_cmp (get_or es i d).0 (get_or es (i + 1) d).0) (rising_at es i (i + 1) d s (omega arith) high))

  -- ---- without the first
  at_tail : (e : Key × X) (es : List (Key × X)) (k : Key) (i : ℕ) → IsAt (e ∷ es) k (suc i) → IsAt es k i
  at_tail e es k i at = record { within = omega (arith, at.within); same = λ d. at.same d }

  gap_tail : (e : Key × X) (es : List (Key × X)) (k : Key) (i : ℕ) → IsGap (e ∷ es) k (suc i) → IsGap es k i
  gap_tail e es k i gap = record { within = omega (arith, gap.within); below = λ j d l. gap.below (suc j) d (omega (arith, l)); above = λ j d l h. gap.above (suc j) d (omega (arith, l)) (omega (arith, h)) }

  gap_behind : (e : Key × X) (es : List (Key × X)) (k : Key) → IsGap (e ∷ es) k zero → IsGap es k zero
  gap_behind e es k gap = record { within = omega arith; below = λ j d l. absurd (omega (arith, l)); above = λ j d l h. gap.above (suc j) d (omega arith) (omega (arith, h)) }

  at_later : (e : Key × X) (es : List (Key × X)) (k : Key) (i : ℕ) → Rise (e ∷ es) → IsAt es k i → key_cmp k e.0 ≡ Greater
  at_later e es k i s at = to_greater e.0 k (ap (key_cmp e.0) (sym (at.same e)) ∙ below_at e.0 es i e (first _ _ s) at.within)

  -- ---- an entry that is put
  pub set_put : (es : List (Key × X)) (k : Key) (v : X) (i : ℕ) → Rise es → IsAt es k i → set es i (k, v) ≡ put key_cmp k v es
  set_put [] k v i s at = absurd (omega (arith, at.within))
  set_put (e ∷ es) k v zero s at =
      ap (λ (q : Key). (q, v) ∷ es) (sym (at.same e))
      ∙ ap (λ o. by_order o ((k, v) ∷ e ∷ es) ((e.0, v) ∷ es) (e ∷ put key_cmp k v es)) (sym (ties e.0 k (at.same e)))
  set_put (e ∷ es) k v (suc i) s at =
      let later = at_tail e es k i at in
      ap (λ (l : List (Key × X)). e ∷ l) (set_put es k v i (second _ _ s) later)
      ∙ ap (λ o. by_order o ((k, v) ∷ e ∷ es) ((e.0, v) ∷ es) (e ∷ put key_cmp k v es)) (sym (at_later e es k i s later))

  pub gap_put : (es : List (Key × X)) (k : Key) (v : X) (i : ℕ) → IsGap es k i → insert es i (k, v) ≡ put key_cmp k v es
  gap_put [] k v zero gap = refl
  gap_put [] k v (suc i) gap = absurd (omega (arith, gap.within))
  gap_put (e ∷ es) k v zero gap =
      ap (λ o. by_order o ((k, v) ∷ e ∷ es) ((e.0, v) ∷ es) (e ∷ put key_cmp k v es)) (sym (to_less e.0 k (gap.above zero e (omega arith) (omega arith))))
  gap_put (e ∷ es) k v (suc i) gap =
      ap (λ (l : List (Key × X)). e ∷ l) (gap_put es k v i (gap_tail e es k i gap))
      ∙ ap (λ o. by_order o ((k, v) ∷ e ∷ es) ((e.0, v) ∷ es) (e ∷ put key_cmp k v es)) (sym (to_greater e.0 k (gap.below zero e (omega arith))))

  -- ---- an entry that is found
  pub at_find : (es : List (Key × X)) (k : Key) (i : ℕ) (d : Key × X) → Rise es → IsAt es k i → find key_cmp k es ≡ Some (get_or es i d).1
  at_find [] k i d s at = absurd (omega (arith, at.within))
  at_find (e ∷ es) k zero d s at = ap (λ o. cond (is_eq o) (Some e.1) (find key_cmp k es)) (ties e.0 k (at.same e))
  at_find (e ∷ es) k (suc i) d s at =
      let later = at_tail e es k i at in
      ap (λ o. cond (is_eq o) (Some e.1) (find key_cmp k es)) (at_later e es k i s later) ∙ at_find es k i d (second _ _ s) later

  -- ---- a key that isn't there
  abbrev Untied : Key → List (Key × X) → Type 0
  Untied k [] = Unit {0}
  Untied k (e ∷ es) = (eq_by_cmp key_cmp k e.0 ≡ false) × Untied k es

  below_untied : (k : Key) (es : List (Key × X)) → T (below_all key_cmp k es) → Untied k es
  below_untied k [] h = tt
  below_untied k (e ∷ es) h = (ap is_eq (less (key_cmp k e.0) (first _ _ h)), below_untied k es (second _ _ h))

  gap_untied : (es : List (Key × X)) (k : Key) (i : ℕ) → IsGap es k i → Untied k es
  gap_untied [] k i gap = tt
  gap_untied (e ∷ es) k zero gap = (ap is_eq (to_less e.0 k (gap.above zero e (omega arith) (omega arith))), gap_untied es k zero (gap_behind e es k gap))
  gap_untied (e ∷ es) k (suc i) gap = (ap is_eq (to_greater e.0 k (gap.below zero e (omega arith))), gap_untied es k i (gap_tail e es k i gap))

  untied_find : (k : Key) (es : List (Key × X)) → Untied k es → find key_cmp k es ≡ None
  untied_find k [] h = refl
  untied_find k (e ∷ es) h = ap (λ b. cond b (Some e.1) (find key_cmp k es)) h.0 ∙ untied_find k es h.1

  untied_out : (k : Key) (es : List (Key × X)) → Untied k es → where_key key_cmp (others k) es ≡ es
  untied_out k [] h = refl
  untied_out k (e ∷ es) h =
      ap (λ b. cond (not b) (e ∷ where_key key_cmp (others k) es) (where_key key_cmp (others k) es)) h.0
      ∙ ap (λ (l : List (Key × X)). e ∷ l) (untied_out k es h.1)

  pub gap_find : (es : List (Key × X)) (k : Key) (i : ℕ) → IsGap es k i → find key_cmp k es ≡ None
  gap_find es k i gap = untied_find k es (gap_untied es k i gap)

  -- ---- an entry that is taken out
  pub gap_out : (es : List (Key × X)) (k : Key) (i : ℕ) → IsGap es k i → where_key key_cmp (others k) es ≡ es
  gap_out es k i gap = untied_out k es (gap_untied es k i gap)

  out_step : (o : Ordering) (k : Key) (e : Key × X) (es : List (Key × X)) → key_cmp k e.0 ≡ o → where_key key_cmp (others k) (e ∷ es) ≡ cond (not (is_eq o)) (e ∷ where_key key_cmp (others k) es) (where_key key_cmp (others k) es)
  out_step o k e es h = ap (λ o. cond (not (is_eq o)) (e ∷ where_key key_cmp (others k) es) (where_key key_cmp (others k) es)) h

  pub at_out : (es : List (Key × X)) (k : Key) (i : ℕ) → Rise es → IsAt es k i → remove es i ≡ where_key key_cmp (others k) es
  at_out [] k i s at = absurd (omega (arith, at.within))
  at_out (e ∷ es) k zero s at =
      sym (out_step Equal k e es (ties e.0 k (at.same e))
      ∙ untied_out k es (below_untied k es (rw (← at.same e) (first _ _ s))))
  at_out (e ∷ es) k (suc i) s at =
      let later = at_tail e es k i at in
      ap (λ (l : List (Key × X)). e ∷ l) (at_out es k i (second _ _ s) later) ∙ sym (out_step Greater k e es (at_later e es k i s later))

-- ---- entries that are marked one by one
mark_at : {K J : Type 0} (es : List (K × StoredEntry J)) (i : ℕ) (e : K × StoredEntry J) → i < length es
    → e ≡ get_or (all_marked (take i es) ++ drop i es) i e
    → set (all_marked (take i es) ++ drop i es) i (e.0, marked e.1) ≡ all_marked (take (suc i) es) ++ drop (suc i) es
mark_at [] i e lt is = absurd (omega (arith, lt))
mark_at {K} {J} (x ∷ es) zero e lt is = ap (λ (y : K × StoredEntry J). (y.0, marked y.1) ∷ es) is
mark_at {K} {J} (x ∷ es) (suc i) e lt is = ap (λ (l : List (K × StoredEntry J)). (x.0, marked x.1) ∷ l) (mark_at es i e (omega (arith, lt)) is)

pub mark_next : {K J : Type 0} (es ls : List (K × StoredEntry J)) (i n : ℕ) (e : K × StoredEntry J) → ls ≡ all_marked (take i es) ++ drop i es → n ≡ suc i → i < length es
    → e ≡ get_or ls i e → set ls i (e.0, marked e.1) ≡ all_marked (take n es) ++ drop n es
mark_next es ls i n e so_far next lt is = rw (so_far, next) (mark_at es i e lt (is ∙ ap (λ l. get_or l i e) so_far))
