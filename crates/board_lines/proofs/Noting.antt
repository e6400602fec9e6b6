-- Notes: one more, and the i-th.
use Rattle.std.proofs.Common.{◌≡◌, ℕ, zero, suc, ◌-◌, ◌<◌, ◌≤◌, Bool, true, false, cond, List, [], ◌∷◌, ◌++◌, length, slice_get, refl, sym, ap, ◌∙◌, arith, Some, None, map, subst, length-append, take, take_all}
use Rattle.std.specs.Prelude.{Option, option_map, ◌||◌}
use Rattle.std.specs.BTreeMap.{is_at}
use Rattle.std.specs.Global.{Box}
use Rattle.std.specs.BTreeSet.{BTreeSet}
use Rattle.std.specs.List.{list_any, IsDistinct}
use Rattle.std.specs.Ordering.{eq_by_cmp}
use Rattle.std.proofs.lemmas.List.{take-append-le}
use Rattle.std.proofs.lemmas.Option.{none-some, same_Some, slice_get-map}
use Rattle.std.proofs.lemmas.Cmp.{eq_by_cmp_equiv}
use Rattle.std.proofs.lemmas.Map.Keys.{IsDistinct-push}
use Rattle.circ_records.specs.Keys.{key_cmp, key_cmp_total}
use Rattle.circ_records.specs.declared.key.Key.{Key}
use Rattle.board_lines.specs.Devices.Held.{index_in, notes_in}
use Rattle.board_lines.specs.declared.notes.NoteList.{NoteList}
use Rattle.board_lines.specs.declared.notes.PlaceNote.{PlaceNote}
use Rattle.board_lines.specs.Notes.{Noted, noted, few, is_indexed, is_key_in, is_noted, AreNoted, AreOnce, ArePlaced, IsPlaced}

abbrev Index : Type 0
Index = Option (Box (BTreeSet Key))

pub length_noted : {J : Type 0} (ns : List (PlaceNote J)) → length (map noted ns) ≡ length ns
length_noted [] = refl
length_noted (n ∷ ns) = ap suc (length_noted ns)

pub noted_push : {J : Type 0} (ns : List (PlaceNote J)) (n : PlaceNote J) → map noted (ns ++ n ∷ []) ≡ map noted ns ++ noted n ∷ []
noted_push [] n = refl
noted_push (m ∷ ns) n = ap (λ x. noted m ∷ x) (noted_push ns n)

-- the i-th note
pub noted_nth : {J : Type 0} (ns : List (PlaceNote J)) (i : ℕ) → slice_get (map noted ns) i ≡ option_map noted (slice_get ns i)
noted_nth [] i = refl
noted_nth (n ∷ ns) zero = refl
noted_nth (n ∷ ns) (suc i) = noted_nth ns i

any_if : (a b c : Bool) → (a || cond b true c) ≡ cond b true (a || c)
any_if true true c = refl
any_if true false c = refl
any_if false b c = refl

one_if : (b : Bool) → (b || false) ≡ cond b true false
one_if true = refl
one_if false = refl

any_push : {X : Type 0} (P : X → Bool) (xs : List X) (y : X) → list_any P (xs ++ y ∷ []) ≡ cond (P y) true (list_any P xs)
any_push P [] y = one_if (P y)
any_push P (x ∷ xs) y = ap (λ b. P x || b) (any_push P xs y) ∙ any_if (P x) (P y) (list_any P xs)

keys_push : (notes : List Noted) (x : Noted) → map (λ (n : Noted). n.key) (notes ++ x ∷ []) ≡ map (λ (n : Noted). n.key) notes ++ x.key ∷ []
keys_push [] x = refl
keys_push (n ∷ notes) x = ap (λ ks. n.key ∷ ks) (keys_push notes x)

any_key : (k : Key) (notes : List Noted) → list_any (eq_by_cmp key_cmp k) (map (λ (n : Noted). n.key) notes) ≡ is_noted notes k
any_key k [] = refl
any_key k (n ∷ notes) = ap (λ b. eq_by_cmp key_cmp k n.key || b) (any_key k notes)

-- one more key that isn't noted
once_more : (notes : List Noted) (x : Noted) → AreOnce notes → is_noted notes x.key ≡ false → AreOnce (notes ++ x ∷ [])
once_more notes x once fresh =
    subst (λ ks. IsDistinct (eq_by_cmp key_cmp) ks) (sym (keys_push notes x))
    (IsDistinct-push (eq_by_cmp_equiv key_cmp_total) (map (λ (n : Noted). n.key) notes) x.key once (any_key x.key notes ∙ fresh))

none_once : AreOnce []
unfolding IsDistinct
none_once = tt

-- no notes, so no places
none_placed : ArePlaced []
none_placed i n g = absurd (none-some n g)

-- one more note, which has a place or is the base's
placed_more : (notes : List Noted) (x : Noted) → ArePlaced notes → IsPlaced x → ArePlaced (notes ++ x ∷ [])
placed_more [] x each here zero n e = subst IsPlaced (same_Some x n e) here
placed_more [] x each here (suc i) n e = absurd (none-some n e)
placed_more (m ∷ notes) x each here zero n e = each zero n e
placed_more (m ∷ notes) x each here (suc i) n e = placed_more notes x (λ j y g. each (suc j) y g) here i n e

-- a key is among the first notes, or it is that of the new one
few_more : {J : Type 0} (ns : List (PlaceNote J)) (n : PlaceNote J) (q : Key) → length ns < 8 → is_key_in (few (ns ++ n ∷ [])) q ≡ cond (eq_by_cmp key_cmp q n.key) true (is_key_in (few ns) q)
few_more ns n q short =
    ap (λ ms. is_key_in ms q) (take_all 8 (ns ++ n ∷ []) (omega (arith, length-append ns (n ∷ []))))
    ∙ any_push (λ (m : PlaceNote _). eq_by_cmp key_cmp q m.key) ns n
    ∙ ap (λ ms. cond (eq_by_cmp key_cmp q n.key) true (is_key_in ms q)) (sym (take_all 8 ns (omega arith)))

if_either : (a b c : Bool) → (cond b true a || c) ≡ cond b true (a || c)
if_either a true c = refl
if_either a false c = refl

-- one more note among the first few
pub noted_few : {J : Type 0} (ns : List (PlaceNote J)) (index : Index) (n : PlaceNote J)
    → AreNoted ns index
    → is_noted (map noted ns) n.key ≡ false
    → IsPlaced (noted n)
    → length ns < 8
    → AreNoted (ns ++ n ∷ []) index
noted_few ns index n kept fresh here short = record {
  each = λ q.
      ap (λ b. b || is_indexed index q) (few_more ns n q short)
      ∙ if_either (is_key_in (few ns) q) (eq_by_cmp key_cmp q n.key) (is_indexed index q)
      ∙ ap (λ b. cond (eq_by_cmp key_cmp q n.key) true b) (kept.each q)
      ∙ sym (any_push (λ (x : Noted). is_at (key_cmp q) x.key) (map noted ns) (noted n))
      ∙ ap (λ notes. is_noted notes q) (sym (noted_push ns n));
  once = subst AreOnce (sym (noted_push ns n)) (once_more (map noted ns) (noted n) kept.once fresh);
  placed = subst ArePlaced (sym (noted_push ns n)) (placed_more (map noted ns) (noted n) kept.placed here);
}

-- one more note after them, whose key is found
pub noted_more : {J : Type 0} (ns : List (PlaceNote J)) (old new : Index) (n : PlaceNote J)
    → AreNoted ns old
    → is_noted (map noted ns) n.key ≡ false
    → IsPlaced (noted n)
    → 8 ≤ length ns
    → ((q : Key) → is_indexed new q ≡ cond (eq_by_cmp key_cmp n.key q) true (is_indexed old q))
    → AreNoted (ns ++ n ∷ []) new
noted_more ns old new n kept fresh here long u = record {
  each = λ q.
      ap (λ ms. is_key_in ms q || is_indexed new q) (take-append-le 8 ns (n ∷ []) long)
      ∙ ap (λ b. is_key_in (few ns) q || b) (u q ∙ ap (λ b. cond b true (is_indexed old q)) ((eq_by_cmp_equiv key_cmp_total).symm n.key q))
      ∙ any_if (is_key_in (few ns) q) (eq_by_cmp key_cmp q n.key) (is_indexed old q)
      ∙ ap (λ b. cond (eq_by_cmp key_cmp q n.key) true b) (kept.each q)
      ∙ sym (any_push (λ (x : Noted). is_at (key_cmp q) x.key) (map noted ns) (noted n))
      ∙ ap (λ notes. is_noted notes q) (sym (noted_push ns n));
  once = subst AreOnce (sym (noted_push ns n)) (once_more (map noted ns) (noted n) kept.once fresh);
  placed = subst ArePlaced (sym (noted_push ns n)) (placed_more (map noted ns) (noted n) kept.placed here);
}

-- what is pushed and popped again leaves the list as it was
pub pushed_popped : {X : Type 0} (old pushed left : List X) (x : X) (n : ℕ) → pushed ≡ old ++ x ∷ [] → n ≡ length pushed → left ≡ take (n - 1) pushed → left ≡ old
pushed_popped old pushed left x n push many pop =
    pop
    ∙ ap (λ m. take m pushed) (omega (arith, many, ap length push, length-append old (x ∷ [])))
    ∙ ap (λ xs. take (length old) xs) push
    ∙ take-append-le (length old) old (x ∷ []) (omega arith)
    ∙ take_all (length old) old (omega arith)

-- an index of the same keys
pub noted_again : {J : Type 0} (ns : List (PlaceNote J)) (old new : Index) → AreNoted ns old → ((q : Key) → is_indexed new q ≡ is_indexed old q) → AreNoted ns new
noted_again ns old new kept same = record {
  each = λ q. ap (λ b. is_key_in (few ns) q || b) (same q) ∙ kept.each q;
  once = kept.once;
  placed = kept.placed;
}

-- nothing is noted, and there is no index
none_kept : {J : Type 0} → AreNoted {J = J} [] None
none_kept = record {
  each = λ q. refl;
  once = none_once;
  placed = none_placed;
}

pub nothing_noted : {J : Type 0} (ns : List (PlaceNote J)) → ns ≡ [] → AreNoted ns None
nothing_noted ns no_notes = subst (λ ms. AreNoted ms None) (sym no_notes) none_kept

-- no box, and so no notes
pub none_held : {J : Type 0} (o : Option (Box (NoteList J))) → o ≡ None → AreNoted (notes_in o) (index_in o)
none_held o none = subst (λ (x : Option (Box (NoteList _))). AreNoted (notes_in x) (index_in x)) (sym none) none_kept

-- the key of a note in a box
key_of : {J : Type 0} (o : Option (PlaceNote J)) → option_map (λ (n : Noted). n.key) (option_map noted o) ≡ option_map (λ (n : PlaceNote J). n.key) o
key_of None = refl
key_of (Some n) = refl

pub held_key : {J : Type 0} (o : Option (Box (NoteList J))) (b : Box (NoteList J)) (h : NoteList J) (i : ℕ) → Some b ≡ o → h ≡ b.value
    → option_map (λ (n : PlaceNote J). n.key) (slice_get h.notes.items i) ≡ option_map (λ (n : Noted). n.key) (slice_get (map noted (notes_in o)) i)
held_key o b h i is at =
    ap (λ (x : NoteList _). option_map (λ (n : PlaceNote _). n.key) (slice_get x.notes.items i)) at
    ∙ sym (ap (option_map (λ (n : Noted). n.key)) (slice_get-map noted b.value.notes.items i) ∙ key_of (slice_get b.value.notes.items i))
    ∙ ap (λ (x : Option (Box (NoteList _))). option_map (λ (n : Noted). n.key) (slice_get (map noted (notes_in x)) i)) is
