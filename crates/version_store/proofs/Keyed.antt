-- Entries with the keys that they borrow.
use denote.Ref.{Bor}
use Rattle.std.proofs.Common.{◌≡◌, ℕ, zero, suc, ◌+◌, ◌<◌, Option, List, [], ◌∷◌, ◌++◌, Result, Ok, Err, Less, Equal, Greater, length, get_or, set, take, drop, refl, sym, ap, ap₂, ◌∙◌, arith}
use Rattle.std.specs.Prelude.{MatchResult, option_map, slice_get}
use Rattle.std.specs.List.{insert, remove}
use Rattle.std.specs.List.Sorted.{IsBinarySearchResult, IsNonDecreasingBy, IsSearchInRange}
use Rattle.std.specs.Ordering.{ordering_index}
use Rattle.std.proofs.lemmas.List.{length-map, map-append, map-set, take-map, drop-map, drop_more}
use Rattle.std.proofs.lemmas.Option.{slice_get-map}
use Rattle.circ_records.specs.Keys.{key_cmp, key_cmp-IsAntisymmetric}
use Rattle.circ_records.specs.declared.key.Key.{Key}
use Rattle.version_store.specs.Entries.{keyed}
use Rattle.version_store.specs.Devices.Positions.{IsAt, IsGap, Rise, all_marked, marked}
use Rattle.version_store.specs.declared.entry.StoredEntry.{StoredEntry}
use Rattle.version_store.proofs.Positions.{searchable}

module _ {X : Type 0} where
  abbrev keyed_one : Bor Key × X → Key × X
  keyed_one e = (e.0.now, e.1)

  pub keyed_length : (es : List (Bor Key × X)) → length (keyed es) ≡ length es
  keyed_length es = length-map es keyed_one

  pub keyed_at : (es : List (Bor Key × X)) (i : ℕ) (d : Bor Key × X) → get_or (keyed es) i (keyed_one d) ≡ keyed_one (get_or es i d)
  keyed_at [] i d = refl
  keyed_at (e ∷ es) zero d = refl
  keyed_at (e ∷ es) (suc i) d = keyed_at es i d

  pub keyed_nth : (es : List (Bor Key × X)) (i : ℕ) (o : Option (Bor Key × X)) → o ≡ slice_get es i → option_map keyed_one o ≡ slice_get (keyed es) i
  keyed_nth es i o is = ap (option_map keyed_one) is ∙ sym (slice_get-map keyed_one es i)

  -- ---- an entry that is put or taken out
  pub keyed_set : (es : List (Bor Key × X)) (i : ℕ) (e : Bor Key × X) → keyed (set es i e) ≡ set (keyed es) i (keyed_one e)
  keyed_set es i e = map-set keyed_one es i e

  pub keyed_insert : (es : List (Bor Key × X)) (i : ℕ) (e : Bor Key × X) → keyed (insert es i e) ≡ insert (keyed es) i (keyed_one e)
  keyed_insert es i e =
      map-append keyed_one (take i es) (e ∷ drop i es)
      ∙ ap₂ (λ (a b : List (Key × X)). a ++ keyed_one e ∷ b) (sym (take-map keyed_one i es)) (sym (drop-map keyed_one i es))

  pub keyed_remove : (es : List (Bor Key × X)) (i : ℕ) → keyed (remove es i) ≡ remove (keyed es) i
  keyed_remove es i =
      map-append keyed_one (take i es) (drop (suc i) es)
      ∙ ap₂ (λ (a b : List (Key × X)). a ++ b) (sym (take-map keyed_one i es)) (sym (drop-map keyed_one (suc i) es))

  -- ---- a search
  at_key : (P : Key → Type 0) (es : List (Bor Key × X)) (i : ℕ) → i < length es → ((e : Bor Key × X) → P (get_or es i e).0.now) → (d : Key × X) → P (get_or (keyed es) i d).0
  at_key P [] i within h d = absurd (omega (arith, within))
  at_key P (x ∷ es) zero within h d = h x
  at_key P (x ∷ es) (suc i) within h d = at_key P es i (omega (arith, within)) h d

  searchable_keyed : (es : List (Bor Key × X)) (k : Key) → Rise (keyed es) → IsNonDecreasingBy (λ (e : Bor Key × X). ordering_index (key_cmp e.0.now k)) es
  searchable_keyed es k s i j d le within =
      let low = ap (λ (x : Key × X). ordering_index (key_cmp x.0 k)) (keyed_at es i d) in
      let high = ap (λ (x : Key × X). ordering_index (key_cmp x.0 k)) (keyed_at es j d) in
      omega (arith, low, high, searchable (keyed es) s k i j (keyed_one d) le (omega (arith, within, keyed_length es)))

  pub searched : (es : List (Bor Key × X)) (k : Key) (r : Result ℕ ℕ) → Rise (keyed es) → IsSearchInRange r (length es) → IsBinarySearchResult (λ (e : Bor Key × X). key_cmp e.0.now k) es r
      → MatchResult r (IsAt (keyed es) k) (IsGap (keyed es) k)
  searched es k (Ok i) s within found = record {
    within = omega (arith, within, keyed_length es);
    same = λ d. key_cmp-IsAntisymmetric (get_or (keyed es) i d).0 k (at_key (λ q. key_cmp q k ≡ Equal) es i within found d);
  }
  searched es k (Err i) s within found =
      let parts = found (searchable_keyed es k s) in record {
        within = omega (arith, within, keyed_length es);
        below = λ j d l. at_key (λ q. key_cmp q k ≡ Less) es j (omega (arith, l, within)) (λ e. parts.0 j e (omega arith) l) d;
        above = λ j d l h. let at : j < length es = omega (arith, h, keyed_length es) in at_key (λ q. key_cmp q k ≡ Greater) es j at (λ e. parts.1 j e l at) d;
      }

  -- ---- a walk
  pub keyed_more : (es : List (Bor Key × X)) (i : ℕ) (e : Bor Key × X) → i < length es → e ≡ get_or es i e
      → drop i (keyed es) ≡ keyed_one e ∷ drop (i + 1) (keyed es)
  keyed_more es i e within is =
      drop_more (keyed es) i (keyed_one e) (omega (arith, within, keyed_length es))
      ∙ ap (λ (x : Key × X). x ∷ drop (i + 1) (keyed es)) (keyed_at es i e ∙ ap keyed_one (sym is))

-- ---- all entries are marked
pub keyed_marked : {J : Type 0} (es : List (Bor Key × StoredEntry J)) → keyed (all_marked es) ≡ all_marked (keyed es)
keyed_marked [] = refl
keyed_marked (e ∷ es) = ap (λ (l : List (Key × StoredEntry _)). (e.0.now, marked e.1) ∷ l) (keyed_marked es)
