-- Notes with one note more.
use Rattle.std.proofs.Common.{◌≡◌, ◌⊎◌, List, [], ◌∷◌, ◌++◌, Bool, true, false, cond, Option, Some, None, inl, inr, refl, sym, ap, ◌∙◌}
use Rattle.std.specs.BTreeMap.{is_at}
use Rattle.std.specs.Cmp.{eq_by_cmp_equiv}
use Rattle.std.specs.Option.{option_map, option_map_or}
use Rattle.circ_records.specs.Keys.{key_cmp, key_cmp_total}
use Rattle.circ_records.specs.declared.key.Key.{Key}
use Rattle.circ_records.specs.declared.record.Record.{Record}
use Rattle.read_set.specs.Asks.{Ask, Give, Done, Wants, follow, Gains, IsAsked}
use Rattle.read_set.specs.Maps.{Grows}
use Rattle.read_set.specs.Notes.{note_of, noted}
use Rattle.read_set.specs.declared.notes.Note.{Note}
use Rattle.read_set.proofs.Keeping.{found-more, one-key}

-- the new note is found
pub noted_there : (notes : List Note) (note : Note) → note_of notes note.key ≡ None → noted (notes ++ note ∷ []) note.key ≡ Some note.found
noted_there notes note fresh =
    ap (option_map (λ (n : Note). n.found))
    (found-more notes note note.key (λ e. fresh) ∙ ap (λ b. cond b (Some note) (note_of notes note.key)) ((eq_by_cmp_equiv key_cmp_total).refl note.key))

-- and those before it as well
pub noted_more : (notes : List Note) (note : Note) → note_of notes note.key ≡ None → Grows (noted notes) (noted (notes ++ note ∷ []))
noted_more notes note fresh k r e = by (is_at (key_cmp k) note.key) refl
  where
    by : (b : Bool) → is_at (key_cmp k) note.key ≡ b → noted (notes ++ note ∷ []) k ≡ Some r
    by true s =
        let no : note_of notes k ≡ None = ap (note_of notes) (one-key k note.key s) ∙ fresh in
        let clash : None ≡ Some r = sym (ap (option_map (λ (n : Note). n.found)) no) ∙ e in cc
    by false s =
        ap (option_map (λ (n : Note). n.found))
        (found-more notes note k (λ t. let clash : true ≡ false = sym t ∙ s in cc) ∙ ap (λ b. cond b (Some note) (note_of notes k)) s)
        ∙ e

-- a key that was asked for is given
pub asked_there : (notes : List Note) (note : Note) → note_of notes note.key ≡ None → follow (noted (notes ++ note ∷ [])) (Ask note.key Give) ≡ Done note.found
asked_there notes note fresh = ap (λ (o : Option (Option Record)). option_map_or (λ r. Done r) o (Wants note.key)) (noted_there notes note fresh)

-- no other key is gained
pub noted_gains : {P : Type 0} (notes : List Note) (note : Note) → note_of notes note.key ≡ None → Gains P (noted notes) (noted (notes ++ note ∷ [])) (Ask note.key Give)
noted_gains notes note fresh = record { grows = noted_more notes note fresh; asked = λ p k. by k (is_at (key_cmp k) note.key) refl }
  where
    by : (k : Key) (b : Bool) → is_at (key_cmp k) note.key ≡ b → (noted (notes ++ note ∷ []) k ≡ noted notes k) ⊎ IsAsked (noted (notes ++ note ∷ [])) (Ask note.key Give) k
    by k true s = inr (inl (one-key k note.key s))
    by k false s =
        inl (ap (option_map (λ (n : Note). n.found))
        (found-more notes note k (λ t. let clash : true ≡ false = sym t ∙ s in cc) ∙ ap (λ b. cond b (Some note) (note_of notes k)) s))
