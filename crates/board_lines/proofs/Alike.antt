-- Keys that are the same, and the note at a place.
use Rattle.std.proofs.Common.{◌≡◌, ℕ, true, List, slice_get, Some, None, Ordering, Less, Equal, Greater, refl, sym, ap, ◌∙◌}
use Rattle.std.specs.Prelude.{option_map}
use Rattle.std.specs.Ordering.{eq_by_cmp, is_eq}
use Rattle.std.proofs.lemmas.Cmp.{eq_by_cmp_equiv}
use Rattle.std.proofs.lemmas.Option.{same_Some, slice_get-map}
use Rattle.circ_records.specs.Keys.{key_cmp, key_cmp_total, key_cmp-IsAntisymmetric}
use Rattle.circ_records.specs.Records.{Entries}
use Rattle.circ_records.specs.declared.key.Key.{Key}
use Rattle.read_set.specs.declared.notes.Note.{Note}
use Rattle.board_lines.specs.Notes.{Noted, note_by, notes_by}

is_eq_true : (o : Ordering) → is_eq o ≡ true → o ≡ Equal
is_eq_true Less h = absurd (cc)
is_eq_true Equal h = refl
is_eq_true Greater h = absurd (cc)

pub key_same : (k q : Key) → eq_by_cmp key_cmp k q ≡ true → k ≡ q
key_same k q h = key_cmp-IsAntisymmetric k q (is_eq_true (key_cmp k q) h)

pub same_tie : (k q : Key) → k ≡ q → eq_by_cmp key_cmp k q ≡ true
same_tie k q e = ap (eq_by_cmp key_cmp k) (sym e) ∙ (eq_by_cmp_equiv key_cmp_total).refl k

-- ---- a note of a line, with its record
module _ (base : Entries) (ns : List Noted) (i : ℕ) where
  pub nth_note : (x : Noted) → Some x ≡ slice_get ns i → slice_get (notes_by base ns) i ≡ Some (note_by base x)
  nth_note x e = slice_get-map (note_by base) ns i ∙ ap (option_map (note_by base)) (sym e)

  pub no_note : None ≡ slice_get ns i → slice_get (notes_by base ns) i ≡ None
  no_note e = slice_get-map (note_by base) ns i ∙ ap (option_map (note_by base)) (sym e)

  pub same_parts : (x : Noted) (t : Note) → Some x ≡ slice_get ns i → Some t ≡ slice_get (notes_by base ns) i → t ≡ note_by base x
  same_parts x t e f = same_Some t (note_by base x) (f ∙ nth_note x e)
