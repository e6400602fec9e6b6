-- Records of notes.
use Rattle.std.proofs.Common.{◌≡◌, ◌≢◌, ℕ, zero, suc, ◌+◌, ◌<◌, Bool, true, false, List, [], ◌∷◌, ◌++◌, Some, None, length, get_or, slice_get, take, map, cond, refl, sym, ap, ap₂, subst, ◌∙◌, inl, inr, arith}
use Rattle.std.specs.List.{IsDistinct}
use Rattle.std.specs.List.Sorted.{IsNonDecreasingBy, IsPartitionPoint, IsStrictlySortedBy}
use Rattle.std.specs.Ordering.{is_eq, is_lt, ordering_index, ordering_reverse, eq_by_cmp}
use Rattle.std.specs.BTreeMap.{is_at}
use Rattle.std.specs.declared.cmp.Ordering.{Ordering}
use Rattle.std.specs.declared.cmp.Ordering.TheVariants.{Less, Equal, Greater}
use Rattle.std.proofs.lemmas.Bool.{cases_lt}
use Rattle.std.proofs.lemmas.List.{get_or-map, length-map, take_more}
use Rattle.std.proofs.lemmas.List.Sorted.{searchable_from_sorted}
use Rattle.std.proofs.lemmas.Option.{get_or_from_slice_get, slice_get_within}
use Rattle.std.proofs.lemmas.Map.Keys.{Less-from_sorted}
use Rattle.circ_records.specs.Keys.{key_cmp, key_cmp_total, key_cmp-IsAntisymmetric}
use Rattle.circ_records.specs.Records.{Entries, record_at}
use Rattle.circ_records.specs.declared.key.Key.{Key}
use Rattle.circ_records.specs.declared.record.Record.{Record}
use Rattle.read_set.specs.Notes.{note_of, IsOnceEach}
use Rattle.read_set.specs.declared.notes.Note.{Note}
use Rattle.read_set.proofs.Keeping.{fresh-at}
use Rattle.board_lines.specs.Notes.{AreOnce, Noted, note_by, notes_by}
use Rattle.board_steps.proofs.Entries.{same_keys}

abbrev Write : Type 0
Write = Key × Record

abbrev AreSorted : Entries → Type 0
AreSorted es = IsStrictlySortedBy key_cmp (map (λ (e : Write). e.0) es)

eq_true : (o : Ordering) → is_eq o ≡ true → o ≡ Equal
eq_true Less h = absurd (cc)
eq_true Equal h = refl
eq_true Greater h = absurd (cc)

-- a key that differs isn't at the place
other_key : (k q : Key) (b : Bool) → is_at (key_cmp k) q ≡ b → k ≢ q → b ≡ false
other_key k q true h ne = absurd (ne (key_cmp-IsAntisymmetric k q (eq_true (key_cmp k q) h)))
other_key k q false h ne = refl

-- the first entry with the key is found
found_there : (es : Entries) (k : Key) (i : ℕ) (d : Write) → i < length es → (get_or es i d).0 ≡ k → ((j : ℕ) → j < i → (get_or es j d).0 ≢ k) → record_at es k ≡ Some (get_or es i d).1
found_there [] k i d lt e before = absurd (omega (arith, lt))
found_there (x ∷ es) k zero d lt e before = subst (λ q. cond (is_at (key_cmp q) x.0) (Some x.1) (record_at es q) ≡ Some x.1) e (ap (λ b. cond b (Some x.1) (record_at es x.0)) (same_keys x.0))
found_there (x ∷ es) k (suc i) d lt e before =
    ap (λ b. cond b (Some x.1) (record_at es k)) (other_key k x.0 _ refl (λ s. before zero (omega arith) (sym s)))
    ∙ found_there es k i d (omega (arith, lt)) e (λ j l. before (suc j) (omega (arith, l)))

-- no entry has the key
found_nowhere : (es : Entries) (k : Key) (d : Write) → ((j : ℕ) → j < length es → (get_or es j d).0 ≢ k) → record_at es k ≡ None
found_nowhere [] k d none = refl
found_nowhere (x ∷ es) k d none =
    ap (λ b. cond b (Some x.1) (record_at es k)) (other_key k x.0 _ refl (λ s. none zero (omega arith) (sym s)))
    ∙ found_nowhere es k d (λ j l. none (suc j) (omega (arith, l)))

key_at : (es : Entries) (i : ℕ) (d : Write) → i < length es → (get_or es i d).0 ≡ get_or (map (λ (e : Write). e.0) es) i d.0
key_at es i d lt = sym (get_or-map (λ (e : Write). e.0) es i d d.0 lt)

rising_keys : (es : Entries) → AreSorted es → (i j : ℕ) (d : Write) → i < j → j < length es → key_cmp (get_or es i d).0 (get_or es j d).0 ≡ Less
rising_keys es sorted i j d lt within =
    ap₂ key_cmp (key_at es i d (omega (arith, lt, within))) (key_at es j d within)
    ∙ (Less-from_sorted key_cmp (map (λ (e : Write). e.0) es) i j d.0 sorted lt (omega (arith, within, length-map es (λ (e : Write). e.0))))

not_less : (o : Ordering) → o ≡ Less → is_lt (ordering_reverse o) ≡ false
not_less o e = subst (λ x. is_lt (ordering_reverse x) ≡ false) (sym e) refl

-- as a binary search asks
searchable : (es : Entries) → AreSorted es → (k : Key) → IsNonDecreasingBy (λ (e : Write). ordering_index (key_cmp e.0 k)) es
searchable es sorted k = searchable_from_sorted key_cmp_total (λ (e : Write). e.0) es k
    (λ i d low high. ap is_lt (key_cmp_total.antisymm (get_or es (i + 1) d).0 (get_or es i d).0) ∙ not_less (key_cmp (get_or es i d).0 (get_or es (i + 1) d).0) (rising_keys es sorted i (i + 1) d (omega arith) high))

-- what a binary search found
pub search_found : (es : Entries) → AreSorted es → (k : Key) (i : ℕ) (d : Write) → i < length es → key_cmp (get_or es i d).0 k ≡ Equal → record_at es k ≡ Some (get_or es i d).1
search_found es sorted k i d lt e =
    let same : (get_or es i d).0 ≡ k = key_cmp-IsAntisymmetric (get_or es i d).0 k e in
    found_there es k i d lt same
    (λ j l s. (let z : Less ≡ Equal = sym (rising_keys es sorted j i d l lt) ∙ ap (λ q. key_cmp q (get_or es i d).0) (s ∙ sym same) ∙ eq_true (key_cmp (get_or es i d).0 (get_or es i d).0) (same_keys (get_or es i d).0) in cc))

-- and what it didn't
pub search_missed : (es : Entries) → AreSorted es → (k : Key) (i : ℕ) (d : Write) → (IsNonDecreasingBy (λ (e : Write). ordering_index (key_cmp e.0 k)) es → IsPartitionPoint (λ (e : Write). key_cmp e.0 k ≡ Less) (λ (e : Write). key_cmp e.0 k ≡ Greater) es i) → record_at es k ≡ None
search_missed es sorted k i d parts =
    let at = parts (searchable es sorted k) in
    let itself : key_cmp k k ≡ Equal = eq_true (key_cmp k k) (same_keys k) in
    found_nowhere es k d (λ j l s. elim (cases_lt j i) [
      | inl below ↦ (let z : Equal ≡ Less = sym itself ∙ ap (λ q. key_cmp q k) (sym s) ∙ at.0 j d (omega arith) below in cc)
      | inr above ↦ (let z : Equal ≡ Greater = sym itself ∙ ap (λ q. key_cmp q k) (sym s) ∙ at.1 j d above l in cc)
    ])

pub found_nothing : (es : Entries) → AreSorted es → (k : Key) (i : ℕ) → (IsNonDecreasingBy (λ (e : Write). ordering_index (key_cmp e.0 k)) es → IsPartitionPoint (λ (e : Write). key_cmp e.0 k ≡ Less) (λ (e : Write). key_cmp e.0 k ≡ Greater) es i) → record_at es k ≡ None
found_nothing [] sorted k i parts = refl
found_nothing (x ∷ es) sorted k i parts = search_missed (x ∷ es) sorted k i x parts

-- ---- the records of notes
keys_by : (base : Entries) (notes : List Noted) → map (λ (n : Note). n.key) (notes_by base notes) ≡ map (λ (n : Noted). n.key) notes
keys_by base [] = refl
keys_by base (n ∷ notes) = ap (λ ks. n.key ∷ ks) (keys_by base notes)

pub once_by : (base : Entries) (notes : List Noted) → AreOnce notes → IsOnceEach (notes_by base notes)
once_by base notes once = subst (λ ks. IsDistinct (eq_by_cmp key_cmp) ks) (sym (keys_by base notes)) once

-- the next note isn't noted yet
pub next_fresh : (base : Entries) (notes : List Noted) (i : ℕ) (x : Note) → AreOnce notes → i < length notes → Some x ≡ slice_get (notes_by base notes) i → note_of (take i (notes_by base notes)) x.key ≡ None
next_fresh base notes i x once lt e =
    fresh-at (notes_by base notes) i x (once_by base notes once) (omega (arith, lt, length-map notes (note_by base))) (sym (get_or_from_slice_get (notes_by base notes) i x x (sym e)))

-- one more of the first
pub take_next : {X : Type 0} (xs : List X) (i : ℕ) (x : X) → Some x ≡ slice_get xs i → take (i + 1) xs ≡ take i xs ++ x ∷ []
take_next xs i x e = take_more xs i x (slice_get_within xs i x (sym e)) ∙ ap (λ v. take i xs ++ v ∷ []) (get_or_from_slice_get xs i x x (sym e))
