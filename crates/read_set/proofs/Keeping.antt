-- Notes, and the positions of their keys.
use Rattle.std.proofs.Common.{◌≡◌, ℕ, zero, suc, ◌+◌, ◌<◌, List, [], ◌∷◌, ◌++◌, Bool, true, false, cond, Option, Some, None, length, get_or, map, take, take_all, arith, refl, sym, ap, ◌∙◌, subst}
use Rattle.std.specs.Prelude.{nat_lt, slice_get, ◌||◌}
use Rattle.std.specs.BTreeMap.{is_at}
use Rattle.std.specs.Cmp.{eq_by_cmp_equiv}
use Rattle.std.specs.List.{IsDistinct, AllByRecursion, list_any}
use Rattle.std.specs.Map.{lookup}
use Rattle.std.specs.Option.{option_map}
use Rattle.std.specs.Ordering.{eq_by_cmp, is_eq, ordering_reverse}
use Rattle.std.specs.declared.cmp.Ordering.{Ordering}
use Rattle.std.specs.declared.cmp.Ordering.TheVariants.{Less, Equal, Greater}
use Rattle.std.proofs.lemmas.Bool.{ltb-false, ltb-true}
use Rattle.std.proofs.lemmas.List.{take-append-le}
use Rattle.std.proofs.lemmas.Option.{slice_get-get_or}
use Rattle.std.proofs.lemmas.Map.Keys.{IsDistinct-head, IsDistinct-push, IsDistinct-tail}
use Rattle.circ_records.specs.Keys.{key_cmp, key_cmp_total, key_cmp-IsAntisymmetric}
use Rattle.circ_records.specs.declared.key.Key.{Key}
use Rattle.circ_records.specs.declared.record.Record.{Record}
use Rattle.read_set.specs.Maps.{Map, Agrees}
use Rattle.read_set.specs.Notes.{note_of, noted, IsOnceEach}
use Rattle.read_set.specs.Devices.Positions.{AreNoted, IsPosition}
use Rattle.read_set.specs.Settling.{AreTrue}
use Rattle.read_set.specs.declared.notes.Note.{Note}

reversed : (o : Ordering) → is_eq (ordering_reverse o) ≡ is_eq o
reversed Less = refl
reversed Equal = refl
reversed Greater = refl

-- two keys are one, whichever comes first
pub either-way : (j k : Key) → is_eq (key_cmp j k) ≡ is_eq (key_cmp k j)
either-way j k = ap is_eq (key_cmp_total.antisymm j k) ∙ reversed (key_cmp k j)

tie : (o : Ordering) → is_eq o ≡ true → o ≡ Equal
tie Less e = cc
tie Equal e = refl
tie Greater e = cc

-- keys that tie are one
pub one-key : (j k : Key) → is_eq (key_cmp j k) ≡ true → j ≡ k
one-key j k e = key_cmp-IsAntisymmetric j k (tie (key_cmp j k) e)

-- a key that isn't noted is none of those that are
unnoted-step : (b : Bool) (n : Note) (o : Option Note) (c : Bool) → (o ≡ None → c ≡ false) → cond b (Some n) o ≡ None → (b || c) ≡ false
unnoted-step true n o c h e = cc
unnoted-step false n o c h e = h e

unnoted : (notes : List Note) (k : Key) → note_of notes k ≡ None → list_any (eq_by_cmp key_cmp k) (map (λ (n : Note). n.key) notes) ≡ false
unnoted [] k e = refl
unnoted (n ∷ more) k e = unnoted-step (is_at (key_cmp k) n.key) n (note_of more k) (list_any (eq_by_cmp key_cmp k) (map (λ (n : Note). n.key) more)) (unnoted more k) e

keys-append : (notes : List Note) (note : Note) → map (λ (n : Note). n.key) (notes ++ note ∷ []) ≡ map (λ (n : Note). n.key) notes ++ note.key ∷ []
keys-append [] note = refl
keys-append (n ∷ more) note = ap (λ ks. n.key ∷ ks) (keys-append more note)

-- one more note, where its key wasn't noted
found-step : (b c : Bool) (n note : Note) (o p : Option Note) → (c ≡ true → cond b (Some n) o ≡ None) → ((c ≡ true → o ≡ None) → p ≡ cond c (Some note) o)
    → cond b (Some n) p ≡ cond c (Some note) (cond b (Some n) o)
found-step true true n note o p h ih = absurd (let no : Some n ≡ None = h refl in cc)
found-step true false n note o p h ih = refl
found-step false c n note o p h ih = ih h

pub found-more : (notes : List Note) (note : Note) (k : Key) → (is_at (key_cmp k) note.key ≡ true → note_of notes k ≡ None)
    → note_of (notes ++ note ∷ []) k ≡ cond (is_at (key_cmp k) note.key) (Some note) (note_of notes k)
found-more [] note k h = refl
found-more (n ∷ more) note k h =
    found-step (is_at (key_cmp k) n.key) (is_at (key_cmp k) note.key) n note (note_of more k) (note_of (more ++ note ∷ []) k) h (λ h'. found-more more note k h')

at-end : (notes : List Note) (note : Note) → slice_get (notes ++ note ∷ []) (length notes) ≡ Some note
at-end [] note = refl
at-end (n ∷ more) note = at-end more note

before-end : (notes : List Note) (note : Note) (i : ℕ) → i < length notes → slice_get (notes ++ note ∷ []) i ≡ slice_get notes i
before-end [] note i h = absurd (omega arith)
before-end (n ∷ more) note zero h = refl
before-end (n ∷ more) note (suc i) h = before-end more note i (omega arith)

longer : (notes : List Note) (note : Note) → length (notes ++ note ∷ []) ≡ length notes + 1
longer [] note = refl
longer (n ∷ more) note = let e : length (more ++ note ∷ []) ≡ length more + 1 = longer more note in omega arith

-- a key whose note is somewhere in the list is noted
no-note : (notes : List Note) (note : Note) (i : ℕ) (k : Key) → i < length notes → slice_get notes i ≡ note_of notes k → note_of notes k ≡ None → ⊥
no-note notes note i k h e none = let some : Some (get_or notes i note) ≡ None = sym (slice_get-get_or notes i note h) ∙ e ∙ none in cc

-- a position that a key had, where the new note is one of the first
first-step : (notes : List Note) (note : Note) (k : Key) (b : Bool) (position : Option ℕ) → length notes < 8
    → (b ≡ true → note_of notes k ≡ None) → note_of (notes ++ note ∷ []) k ≡ cond b (Some note) (note_of notes k)
    → IsPosition notes k position → IsPosition (notes ++ note ∷ []) k position
first-step notes note k b None short fresh found h =
    let more : length (notes ++ note ∷ []) ≡ length notes + 1 = longer notes note in
    ap (λ ns. note_of ns k) (sym (take_all 8 (notes ++ note ∷ []) (omega arith)))
first-step notes note k true (Some i) short fresh found h = absurd (no-note notes note i k h.0 h.1 (fresh refl))
first-step notes note k false (Some i) short fresh found h =
    let more : length (notes ++ note ∷ []) ≡ length notes + 1 = longer notes note in
    let within : i < length notes = h.0 in
    (omega arith, before-end notes note i within ∙ h.1 ∙ sym found)

-- the first notes stay the first: all that there are, or those before the new one
first-more : (notes : List Note) (note : Note) (k : Key) → note_of (notes ++ note ∷ []) k ≡ note_of notes k → note_of notes k ≡ note_of (take 8 notes) k
    → note_of (notes ++ note ∷ []) k ≡ note_of (take 8 (notes ++ note ∷ [])) k
first-more notes note k same h = by (nat_lt (length notes) 8) refl
  where
    by : (b : Bool) → nat_lt (length notes) 8 ≡ b → note_of (notes ++ note ∷ []) k ≡ note_of (take 8 (notes ++ note ∷ [])) k
    by true e =
        let more : length (notes ++ note ∷ []) ≡ length notes + 1 = longer notes note in
        let short : length notes < 8 = ltb-true (length notes) 8 e in
        ap (λ ns. note_of ns k) (sym (take_all 8 (notes ++ note ∷ []) (omega arith)))
    by false e = same ∙ h ∙ ap (λ ns. note_of ns k) (sym (take-append-le 8 notes (note ∷ []) (ltb-false (length notes) 8 e)))

-- a position that a key had, or that of the new note
position-step : (notes : List Note) (note : Note) (k : Key) (b : Bool) (old new : Option ℕ)
    → note_of (notes ++ note ∷ []) k ≡ cond b (Some note) (note_of notes k) → new ≡ cond b (Some (length notes)) old
    → IsPosition notes k old → IsPosition (notes ++ note ∷ []) k new
position-step notes note k true old None found e h = cc
position-step notes note k true old (Some i) found e h =
    let same : i ≡ length notes = cc in
    let more : length (notes ++ note ∷ []) ≡ length notes + 1 = longer notes note in
    (omega arith, ap (slice_get (notes ++ note ∷ [])) same ∙ at-end notes note ∙ sym found)
position-step notes note k false None None found e h = first-more notes note k found h
position-step notes note k false None (Some i) found e h = cc
position-step notes note k false (Some j) None found e h = cc
position-step notes note k false (Some j) (Some i) found e h =
    let same : i ≡ j = cc in
    let within : i < length notes = let at = h.0 in omega arith in
    let more : length (notes ++ note ∷ []) ≡ length notes + 1 = longer notes note in
    (omega arith, before-end notes note i within ∙ ap (slice_get notes) same ∙ h.1 ∙ sym found)

none-distinct : IsDistinct (eq_by_cmp key_cmp) []
unfolding IsDistinct
none-distinct = tt

pub none-noted : AreNoted [] []
none-noted = record { once = none-distinct; at = λ k. refl }

once-more : (notes : List Note) (note : Note) → IsOnceEach notes → note_of notes note.key ≡ None → IsOnceEach (notes ++ note ∷ [])
once-more notes note once fresh =
    subst (λ (ks : List Key). IsDistinct (eq_by_cmp key_cmp) ks) (sym (keys-append notes note)) (IsDistinct-push (eq_by_cmp_equiv key_cmp_total) (map (λ (n : Note). n.key) notes) note.key once (unnoted notes note.key fresh))

unnoted-there : (notes : List Note) (note : Note) (k : Key) → note_of notes note.key ≡ None → is_at (key_cmp k) note.key ≡ true → note_of notes k ≡ None
unnoted-there notes note k fresh e = ap (note_of notes) (one-key k note.key e) ∙ fresh

-- one more note among the first
pub noted-first : (notes : List Note) (note : Note) (positions : List (Key × ℕ)) → AreNoted notes positions → note_of notes note.key ≡ None → length notes < 8 → AreNoted (notes ++ note ∷ []) positions
noted-first notes note positions h fresh short = record {
  once = once-more notes note h.once fresh;
  at = λ k. first-step notes note k (is_at (key_cmp k) note.key) (lookup (is_at (key_cmp k)) positions) short (unnoted-there notes note k fresh) (found-more notes note k (unnoted-there notes note k fresh)) (h.at k);
}

-- one more note, and its position
pub noted-later : (notes : List Note) (note : Note) (old new : List (Key × ℕ)) (key : Key) (position : ℕ) → AreNoted notes old → note_of notes note.key ≡ None → key ≡ note.key → position ≡ length notes
    → ((k : Key) → lookup (is_at (key_cmp k)) new ≡ cond (is_at (key_cmp key) k) (Some position) (lookup (is_at (key_cmp k)) old))
    → AreNoted (notes ++ note ∷ []) new
noted-later notes note old new key position h fresh same end updates = record {
  once = once-more notes note h.once fresh;
  at = λ k.
      let is-at : is_at (key_cmp key) k ≡ is_at (key_cmp k) note.key = ap (λ (x : Key). is_at (key_cmp x) k) same ∙ either-way note.key k in
      position-step notes note k (is_at (key_cmp k) note.key) (lookup (is_at (key_cmp k)) old) (lookup (is_at (key_cmp k)) new)
      (found-more notes note k (unnoted-there notes note k fresh))
      (updates k ∙ ap (λ b. cond b (Some position) (lookup (is_at (key_cmp k)) old)) is-at ∙ ap (λ n. cond (is_at (key_cmp k) note.key) (Some n) (lookup (is_at (key_cmp k)) old)) end)
      (h.at k);
}

all-at : (P : Key → Type 0) (notes : List Note) (i : ℕ) (d : Note) → AllByRecursion P (map (λ (n : Note). n.key) notes) → i < length notes → d ≡ get_or notes i d → P d.key
all-at P [] i d h w e = absurd (omega arith)
all-at P (n ∷ more) zero d h w e = subst (λ (x : Note). P x.key) (sym e) h.0
all-at P (n ∷ more) (suc i) d h w e = all-at P more i d h.1 (omega arith) e

other-key : (b : Bool) (n : Note) (o : Option Note) → b ≡ false → o ≡ None → cond b (Some n) o ≡ None
other-key b n o e h = rw (e, h) refl

-- a note's key isn't noted before it
pub fresh-at : (notes : List Note) (i : ℕ) (d : Note) → IsOnceEach notes → i < length notes → d ≡ get_or notes i d → note_of (take i notes) d.key ≡ None
fresh-at [] i d h w e = absurd (omega arith)
fresh-at (n ∷ more) zero d h w e = refl
fresh-at (n ∷ more) (suc i) d h w e =
    other-key (is_at (key_cmp d.key) n.key) n (note_of (take i more) d.key)
    (either-way d.key n.key ∙ all-at (λ k. eq_by_cmp key_cmp n.key k ≡ false) more i d (IsDistinct-head (eq_by_cmp key_cmp) n.key (map (λ (x : Note). x.key) more) h) (omega arith) e)
    (fresh-at more i d (IsDistinct-tail (eq_by_cmp key_cmp) n.key (map (λ (x : Note). x.key) more) h) (omega arith) e)

true-at : (b : Bool) (n : Note) (o : Option Note) (r : Option Record) (M : Map) (k : Key) → (b ≡ true → k ≡ n.key) → M n.key ≡ n.found
    → (option_map (λ (x : Note). x.found) o ≡ Some r → M k ≡ r) → option_map (λ (x : Note). x.found) (cond b (Some n) o) ≡ Some r → M k ≡ r
true-at true n o r M k same t ih e = let f : n.found ≡ r = cc in ap M (same refl) ∙ t ∙ f
true-at false n o r M k same t ih e = ih e

-- a map in which notes are true has what is noted
pub true-agrees : (notes : List Note) (M : Map) → AreTrue notes M → Agrees (noted notes) M
true-agrees [] M t k r e = cc
true-agrees (n ∷ more) M t k r e =
    true-at (is_at (key_cmp k) n.key) n (note_of more k) r M k (one-key k n.key) t.0 (true-agrees more M t.1 k r) e
