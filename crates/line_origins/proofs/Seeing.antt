-- What is noted of a shelf.
use Rattle.std.proofs.Common.{◌≡◌, ◌∙◌, ℕ, Bool, true, false, cond, List, [], ◌∷◌, ◌++◌, Option, Some, None, Result, Ok, Err, refl, sym, ap, subst}
use Rattle.std.specs.Prelude.{OnErr, OnOk}
use Rattle.std.specs.BTreeMap.{is_at}
use Rattle.std.specs.Map.{lookup}
use Rattle.std.specs.Option.{option_map}
use Rattle.circ_records.specs.Keys.{key_cmp}
use Rattle.circ_records.specs.Records.{Entries, record_at}
use Rattle.circ_records.specs.declared.key.Key.{Key}
use Rattle.circ_records.specs.declared.record.Record.{Record}
use Rattle.read_set.specs.Maps.{Map, Agrees}
use Rattle.read_set.specs.Notes.{note_of, noted}
use Rattle.read_set.specs.declared.notes.Note.{Note}
use Rattle.read_set.proofs.Keeping.{found-more, one-key}
use Rattle.line_origins.specs.Origins.{AreSeen, line_of}

found : (o : Option Note) (r now : Option Record) → ((note : Note) → o ≡ Some note → now ≡ note.found) → option_map (λ n. n.found) o ≡ Some r → now ≡ r
found None r now h e = cc
found (Some note) r now h e = let is : note.found ≡ r = cc in h note refl ∙ is

-- a map that has what is on the shelf has what is noted of it
pub agrees_seen : (records : Entries) (writers : List (Key × ℕ)) (notes : List Note) (M : Map) → AreSeen records writers notes → ((k : Key) → record_at records k ≡ M k) → Agrees (noted notes) M
agrees_seen records writers notes M seen same k r e = sym (same k) ∙ found (note_of notes k) r (record_at records k) (λ note is. (seen k note is).0) e

-- one note more
pub seen_more : (records : Entries) (writers : List (Key × ℕ)) (notes : List Note) (note : Note) → AreSeen records writers notes → note_of notes note.key ≡ None
    → record_at records note.key ≡ note.found → line_of note.name ≡ lookup (is_at (key_cmp note.key)) writers → AreSeen records writers (notes ++ note ∷ [])
seen_more records writers notes note seen fresh found wrote k n e = by (is_at (key_cmp k) note.key) refl
  where
    by : (b : Bool) → is_at (key_cmp k) note.key ≡ b → (record_at records k ≡ n.found) × (line_of n.name ≡ lookup (is_at (key_cmp k)) writers)
    by true s =
        let same : k ≡ note.key = one-key k note.key s in
        let this : Some note ≡ Some n =
        sym (found-more notes note k (λ t. ap (note_of notes) same ∙ fresh) ∙ ap (λ b. cond b (Some note) (note_of notes k)) s) ∙ e in
        let is : note ≡ n = cc in (
          ap (record_at records) same ∙ found ∙ ap (λ (x : Note). x.found) is,
          ap (λ (x : Note). line_of x.name) (sym is) ∙ wrote ∙ ap (λ (j : Key). lookup (is_at (key_cmp j)) writers) (sym same),
        )
    by false s =
        seen k n
        (sym (found-more notes note k (λ t. let clash : true ≡ false = sym t ∙ s in cc) ∙ ap (λ b. cond b (Some note) (note_of notes k)) s) ∙ e)

-- where there was memory for it; else they are as they were
pub seen_added : {A E : Type 0} (records : Entries) (writers : List (Key × ℕ)) (notes new : List Note) (note : Note) (r : Result A E) → OnOk r (new ≡ notes ++ note ∷ []) → OnErr r (new ≡ notes)
    → AreSeen records writers notes → note_of notes note.key ≡ None → record_at records note.key ≡ note.found → line_of note.name ≡ lookup (is_at (key_cmp note.key)) writers
    → AreSeen records writers new
seen_added records writers notes new note (Ok u) more same seen fresh found wrote = subst (AreSeen records writers) (sym more) (seen_more records writers notes note seen fresh found wrote)
seen_added records writers notes new note (Err e) more same seen fresh found wrote = subst (AreSeen records writers) (sym same) seen
