-- What a line sees, by the store and on the board; and which keys are noted.
use Rattle.std.proofs.Common.{◌≡◌, ◌≢◌, ℕ, zero, suc, Bool, true, false, cond, is_eq, Ordering, Less, Equal, Greater, List, [], ◌∷◌, ◌++◌, Option, Some, None, length, slice_get, ◌≤◌, arith, refl, sym, ap, subst, ◌∙◌}
use Rattle.std.specs.Prelude.{option_map, ◌||◌, if◌then◌else◌}
use Rattle.std.specs.BTreeMap.{is_at}
use Rattle.std.specs.FinMap.{entries, find, get-entries}
use Rattle.std.proofs.lemmas.Option.{none-some, same_Some}
use Rattle.circ_records.specs.Keys.{key_cmp, key_cmp-IsAntisymmetric}
use Rattle.circ_records.specs.Records.{Entries, record_at}
use Rattle.circ_records.specs.declared.key.Key.{Key}
use Rattle.circ_records.specs.declared.record.Record.{Record}
use Rattle.read_set.specs.Plans.{Planned}
use Rattle.read_set.specs.declared.notes.Name.{Name}
use Rattle.read_set.specs.declared.notes.Name.TheVariants.{Base, Made}
use Rattle.read_set.specs.declared.notes.Note.{Note}
use Rattle.version_store.specs.Entries as store
use Rattle.version_store.specs.Entries.{Shown, found_of, found_at, visible}
use Rattle.version_store.specs.declared.entry.Found.TheVariants.{Named, Suspect}
use Rattle.version_store.specs.declared.table.Place.{Place}
use Rattle.board_steps.specs.Board.{Row, EachNote, row_at, found, record_of, seen_entry, value_at}
use Rattle.board_steps.specs.Steps.{HasNone}
use Rattle.board_steps.proofs.Entries.{same_keys}
use Rattle.board_lines.specs.Notes.{Noted, found_by, is_noted, IsPlaced, key_and_name, note_by, notes_by, note_with, contents_at}
use Rattle.board_lines.specs.Parts.{Parts, board_of, IsKept}
use Rattle.board_lines.specs.Sights.{IsNameOf}
use Rattle.board_lines.proofs.Rows.{entries_at}

-- ---- names and records of what is seen
pub sight_named : {J : Type 0} (base : Entries) (k : Key) (o : Option (ℕ × Shown)) (name : Name) (place : Option (Place J))
    → IsNameOf o name place → (found_of o ≡ Named name) × (found_by base k (option_map contents_at place) ≡ record_of k o (record_at base k))
sight_named base k None name place h = (ap Named (sym h.0), ap (λ p. found_by base k (option_map contents_at p)) h.1)
sight_named base k (Some p) name place h =
    (ap (λ (b : Bool). if b then Suspect p.0 else Named (Made p.1.attempt p.0)) h.0 ∙ ap Named (sym h.1), ap (found_by base k) h.2)

-- what is seen has no place just if it is the base's
pub sight_placed : {J : Type 0} (k : Key) (o : Option (ℕ × Shown)) (name : Name) (place : Option (Place J)) → IsNameOf o name place → IsPlaced (note_with k name place)
sight_placed k None name place h = (λ e. ap (option_map contents_at) h.1, λ e. h.0)
sight_placed k (Some p) name place h = (
  λ e. absurd (let z : Made p.1.attempt p.0 ≡ Base = sym h.1 ∙ e in cc),
  λ e. absurd (none-some p.1.contents (sym e ∙ h.2)),
)

module _ (plan : Planned) (a : Parts) (kept : IsKept plan a) where
  same_lines : (λ (m : ℕ). (row_at (board_of plan.base a) m).entries) ≡ store.line_at a.store
  same_lines = λ i m. entries_at plan a kept m i

  -- the visible entry is that of the store
  pub entry_seen : (n : ℕ) (k : Key) → seen_entry (row_at (board_of plan.base a)) n k ≡ visible (store.line_at a.store) n k
  entry_seen n k = ap (λ (f : ℕ → store.Line). visible f n k) same_lines

  pub found_seen : (n : ℕ) (k : Key) → found (row_at (board_of plan.base a)) n k ≡ found_at (store.line_at a.store) n k
  found_seen n k = ap found_of (entry_seen n k)

  -- what was seen has its name and its record on the board
  pub named_seen : {J : Type 0} (n : ℕ) (k : Key) (name : Name) (place : Option (Place J)) → IsNameOf (visible (store.line_at a.store) n k) name place
      → (found (row_at (board_of plan.base a)) n k ≡ Named name) × (found_by plan.base k (option_map contents_at place) ≡ value_at plan (row_at (board_of plan.base a)) n k)
  named_seen n k name place h =
      let r = sight_named plan.base k (visible (store.line_at a.store) n k) name place h in (
        found_seen n k ∙ r.0,
        r.1 ∙ sym (ap (λ (o : Option (ℕ × Shown)). record_of k o (record_at plan.base k)) (entry_seen n k)),
      )

  pub suspect_seen : (n : ℕ) (k : Key) (m : ℕ) → found_of (visible (store.line_at a.store) n k) ≡ Suspect m → found (row_at (board_of plan.base a)) n k ≡ Suspect m
  suspect_seen n k m h = found_seen n k ∙ h

-- ---- noted keys
or_false : (a b : Bool) → (a || b) ≡ false → (a ≡ false) × (b ≡ false)
or_false true b h = absurd (cc)
or_false false b h = (refl, h)

or_true : (a b : Bool) → (a || b) ≡ true → (a ≡ false) → b ≡ true
or_true true b h e = absurd (cc)
or_true false b h e = h

key_apart : (k q : Key) → is_at (key_cmp k) q ≡ false → q ≢ k
key_apart k q h e = (let z : true ≡ false = sym (same_keys k) ∙ subst (λ x. is_at (key_cmp k) x ≡ false) e h in cc)

is_equal : (o : Ordering) → is_eq o ≡ true → o ≡ Equal
is_equal Less h = absurd (cc)
is_equal Equal h = refl
is_equal Greater h = absurd (cc)

key_at : (k q : Key) (b : Bool) → is_at (key_cmp k) q ≡ b → q ≢ k → b ≡ false
key_at k q true h ne = absurd (ne (sym (key_cmp-IsAntisymmetric k q (is_equal (key_cmp k q) h))))
key_at k q false h ne = refl

pub unnoted_each : (base : Entries) (ns : List Noted) (k : Key) → is_noted ns k ≡ false → EachNote (notes_by base ns) (λ x. x.key ≢ k)
unnoted_each base [] k h j x e = absurd (none-some x e)
unnoted_each base (n ∷ ns) k h zero x e =
    (λ g. key_apart k n.key (or_false _ _ h).0 (ap (λ (y : Note). y.key) (same_Some (note_by base n) x e) ∙ g))
unnoted_each base (n ∷ ns) k h (suc j) x e = unnoted_each base ns k (or_false _ _ h).1 j x e

pub noted_some : (base : Entries) (ns : List Noted) (k : Key) → is_noted ns k ≡ true → EachNote (notes_by base ns) (λ x. x.key ≢ k) → ⊥
noted_some base [] k h each = cc
noted_some base (n ∷ ns) k h each =
    noted_some base ns k (or_true _ _ h (key_at k n.key _ refl (each zero (note_by base n) refl))) (λ j x e. each (suc j) x e)

-- one note more
pub notes_push : (base : Entries) (ns : List Noted) (x : Noted) → notes_by base (ns ++ x ∷ []) ≡ notes_by base ns ++ note_by base x ∷ []
notes_push base [] x = refl
notes_push base (n ∷ ns) x = ap (λ y. note_by base n ∷ y) (notes_push base ns x)

pub notes_past : (base : Entries) (ns : List Noted) (i : ℕ) → length ns ≤ i → option_map key_and_name (slice_get (notes_by base ns) i) ≡ None
notes_past base [] i h = refl
notes_past base (n ∷ ns) zero h = absurd (omega (arith, h))
notes_past base (n ∷ ns) (suc i) h = notes_past base ns i (omega (arith, h))

pub note_is : {J : Type 0} (base : Entries) (k : Key) (name : Name) (place : Option (Place J)) (v : Option Record) → found_by base k (option_map contents_at place) ≡ v
    → note_by base (note_with k name place) ≡ record { key = k; name = name; found = v }
note_is base k name place v h = ap (λ (x : Option Record). record { key = k; name = name; found = x }) h

-- ---- lines without entries
none_first : {X : Type 0} (es : List X) → slice_get es 0 ≡ None → es ≡ []
none_first [] h = refl
none_first (x ∷ es) h = absurd (none-some x (sym h))

pub has_none : (r : Row) → slice_get (entries r.entries) 0 ≡ None → HasNone r
has_none r h k = get-entries r.entries k ∙ ap (find key_cmp k) (none_first (entries r.entries) h)

first_found : (es : List (Key × Shown)) (e : Key × Shown) → slice_get es 0 ≡ Some e → find key_cmp e.0 es ≡ Some e.1
first_found [] e h = absurd (none-some e h)
first_found (x ∷ es) e h =
    subst (λ (y : Key × Shown). find key_cmp e.0 (y ∷ es) ≡ Some e.1) (sym (same_Some x e h))
    (ap (λ (b : Bool). cond b (Some e.1) (find key_cmp e.0 es)) (same_keys e.0))

pub has_some : (r : Row) (e : Key × Shown) → slice_get (entries r.entries) 0 ≡ Some e → HasNone r → ⊥
has_some r e h none = none-some e.1 (sym (none e.0) ∙ get-entries r.entries e.0 ∙ first_found (entries r.entries) e h)
