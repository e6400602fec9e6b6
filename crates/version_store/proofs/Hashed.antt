-- An index by the positions that hashes choose.
use Rattle.std.proofs.Common.{◌≡◌, ◌≤◌, ℕ, zero, suc, Bool, true, false, cond, Option, List, [], ◌∷◌, ◌++◌, length, Some, None, refl, sym, ap, ◌∙◌, inl, inr, length-set}
use Rattle.std.specs.Prelude.{option_and_then, slice_get, slice_set}
use Rattle.std.specs.BTreeMap.{get}
use Rattle.std.specs.Ordering.{nat_cmp, eq_by_cmp}
use Rattle.std.proofs.lemmas.Bool.{cases_eq}
use Rattle.std.proofs.lemmas.Option.{slice_get_past}
use Rattle.circ_records.specs.Keys.{key_cmp}
use Rattle.circ_records.specs.declared.key.Key.{Key}
use Rattle.version_store.specs.Index.{Part, column_at, in_column, in_part, in_parts, position_in, with_at}
use Rattle.version_store.proofs.Columns.{same_key, untouched}

-- parts in which no key has a column
abbrev pub AreBare : List Part → Type 0
AreBare parts = (i : ℕ) (q : Key) → column_at parts i q ≡ None

pub bare_more : (ps : List Part) (p : Part) → AreBare ps → p.entries ≡ [] → AreBare (ps ++ p ∷ [])
bare_more [] p bare h zero q = rw h refl
bare_more [] p bare h (suc i) q = refl
bare_more (x ∷ ps) p bare h zero q = bare 0 q
bare_more (x ∷ ps) p bare h (suc i) q = bare_more ps p (λ j. bare (suc j)) h i q

pub get_same : {Y : Type 0} (ps : List Y) (i : ℕ) (x y : Y) → slice_get ps i ≡ Some x → slice_get (slice_set ps i y) i ≡ Some y
get_same [] i x y e = cc e
get_same (p ∷ ps) zero x y e = refl
get_same (p ∷ ps) (suc i) x y e = get_same ps i x y e

pub get_other : {Y : Type 0} (ps : List Y) (i j : ℕ) (y : Y) → (j ≡ i → ⊥) → slice_get (slice_set ps i y) j ≡ slice_get ps j
get_other [] i j y apart = refl
get_other (p ∷ ps) zero zero y apart = absurd (apart refl)
get_other (p ∷ ps) zero (suc j) y apart = refl
get_other (p ∷ ps) (suc i) zero y apart = refl
get_other (p ∷ ps) (suc i) (suc j) y apart = get_other ps i j y (λ e. apart (ap suc e))

-- by what is at the positions that hashes choose, one of which was changed
pub by_one : {Y : Type 0} (F G : Option Y → Key → ℕ → Bool) (ps : List Y) (i : ℕ) (p new : Y) (change : Key → ℕ → Bool → Bool)
    → slice_get ps i ≡ Some p
    → ((q : Key) (m : ℕ) → position_in (length ps) q ≡ i → G (Some new) q m ≡ change q m (F (Some p) q m))
    → ((q : Key) (m : ℕ) (x : Option Y) → (position_in (length ps) q ≡ i → ⊥) → G x q m ≡ change q m (F x q m))
    → (q : Key) (m : ℕ) → G (slice_get (slice_set ps i new) (position_in (length (slice_set ps i new)) q)) q m ≡ change q m (F (slice_get ps (position_in (length ps) q)) q m)
by_one F G ps i p new change there h off q m =
    ap (λ n. G (slice_get (slice_set ps i new) (position_in n q)) q m) (length-set ps i new)
    ∙ elim (cases_eq (position_in (length ps) q) i) [
      | inl same ↦ ap (λ j. G (slice_get (slice_set ps i new) j) q m) same
          ∙ ap (λ o. G o q m) (get_same ps i p new there)
          ∙ h q m same
          ∙ ap (λ o. change q m (F o q m)) (sym there ∙ ap (slice_get ps) (sym same))
      | inr apart ↦ ap (λ o. G o q m) (get_other ps i (position_in (length ps) q) new apart) ∙ off q m _ apart
    ]

abbrev by_part : Option Part → Key → ℕ → Bool
by_part o q m = in_column (option_and_then (λ part. get key_cmp part q) o) m

pub off_key : (b c w x : Bool) → (b ≡ true → ⊥) → x ≡ cond b (cond c w x) x
off_key true c w x h = absurd (h refl)
off_key false c w x h = refl

-- one line was entered at one key, or taken out
pub entered : (ps : List Part) (i : ℕ) (p new : Part) (k : Key) (n : ℕ) (w : Bool)
    → i ≡ position_in (length ps) k
    → slice_get ps i ≡ Some p
    → ((q : Key) (m : ℕ) → in_part new q m ≡ with_at k n w (in_part p) q m)
    → (q : Key) (m : ℕ) → in_parts (slice_set ps i new) q m ≡ with_at k n w (in_parts ps) q m
entered ps i p new k n w here there h =
    by_one by_part by_part ps i p new (λ q m x. cond (eq_by_cmp key_cmp k q) (cond (eq_by_cmp nat_cmp n m) w x) x) there (λ q m same. h q m)
    (λ q m x apart. off_key (eq_by_cmp key_cmp k q) (eq_by_cmp nat_cmp n m) w (by_part x q m)
    (λ t. apart (ap (position_in (length ps)) (sym (same_key k q t)) ∙ sym here)))

-- nothing changed
pub unentered : (ps : List Part) (i : ℕ) (p new : Part)
    → slice_get ps i ≡ Some p
    → ((q : Key) (m : ℕ) → in_part new q m ≡ in_part p q m)
    → (q : Key) (m : ℕ) → in_parts (slice_set ps i new) q m ≡ in_parts ps q m
unentered ps i p new there h = by_one by_part by_part ps i p new (λ q m x. x) there (λ q m same. h q m) (λ q m x apart. refl)

-- a key that has no part has no line that could be removed
pub cleared_past : (ps : List Part) (k : Key) (n : ℕ) → length ps ≤ position_in (length ps) k
    → (q : Key) (m : ℕ) → in_parts ps q m ≡ with_at k n false (in_parts ps) q m
cleared_past ps k n past q m =
    untouched (λ x. column_at ps (position_in (length ps) x) x) k q n m
    (ap (option_and_then (λ part. get key_cmp part k)) (slice_get_past ps (position_in (length ps) k) past))
