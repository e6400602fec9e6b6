-- The fields that are written are the pieces that are read.
use Rattle.std.proofs.Common.{◌≡◌, ℕ, suc, Bool, true, false, ◌&&◌, ◌||◌, not, eqb, List, [], ◌∷◌, ◌++◌, length, map, Option, Some, None, refl, sym, ◌∙◌, append_assoc, append-nil, arith}
use Rattle.std.specs.Prelude.{unwrap_or}
use Rattle.std.specs.Borrow.{Bor}
use Rattle.std.specs.List.{list_any}
use Rattle.std.specs.Option.{option_copied, option_or}
use Rattle.std.proofs.lemmas.Bool.{le-leb, or_parts}
use Rattle.std.proofs.lemmas.List.{map_push}
use Rattle.sip_reader.specs.Fields.{field as first_of, or_else, pieces, text_after}
use Rattle.sip_reader.proofs.Pieces.{field_push}
use Rattle.sip_answer.specs.Devices.ReadBack.{is_bar, is_whole}
use Rattle.sip_answer.specs.Parts.{field, filled, given}

-- the text of the first field of an identifier
unfoldable pub first : ℕ → ℕ → List ℕ → Option (List ℕ)
first a b rest = first_of a b (pieces rest)

-- a piece ends at the first bar
cut : (piece more : List ℕ) → list_any is_bar piece ≡ false → pieces (piece ++ 124 ∷ more) ≡ piece ∷ pieces more
cut [] more clean = refl
cut (x ∷ piece) more clean =
    let parts = or_parts (is_bar x) (list_any is_bar piece) clean in
    rw (parts.0, cut piece more parts.1) refl

unbarred : (t : List ℕ) → is_whole t ≡ true → list_any is_bar t ≡ false
unbarred t clean = by (list_any is_bar t) clean
  where
    by : (b : Bool) → not b ≡ true → b ≡ false
    by true e = sym e
    by false e = refl

-- a field that is written is a piece
pub piece_of : (a b : ℕ) (text more : List ℕ) → list_any is_bar (a ∷ b ∷ []) ≡ false
    → is_whole text ≡ true → pieces (field (a ∷ b ∷ []) text ++ more) ≡ (a ∷ b ∷ text) ∷ pieces more
unfolding field
piece_of a b text more id clean =
    let first_two = or_parts (is_bar a) (is_bar b || false) id in
    let second = or_parts (is_bar b) false first_two.1 in
    let whole : list_any is_bar (a ∷ b ∷ text) ≡ false = rw (first_two.0, second.0) (unbarred text clean) in
    rw (append_assoc text (124 ∷ []) more) (cut (a ∷ b ∷ text) more whole)

pub named : (a b c d : ℕ) (text : List ℕ) → (eqb a c && eqb b d) ≡ true → text_after c d (a ∷ b ∷ text) ≡ Some text
named a b c d text e = rw (le-leb 2 (suc (suc (length text))) (omega arith), e) refl

pub other : (a b c d : ℕ) (text : List ℕ) → (eqb a c && eqb b d) ≡ false → text_after c d (a ∷ b ∷ text) ≡ None
other a b c d text e = rw (le-leb 2 (suc (suc (length text))) (omega arith), e) refl

-- the field of the identifier counts, and any other is passed over
pub here : (a b : ℕ) (text more : List ℕ) → list_any is_bar (a ∷ b ∷ []) ≡ false
    → (eqb a a && eqb b b) ≡ true → is_whole text ≡ true
    → first a b (field (a ∷ b ∷ []) text ++ more) ≡ Some text
unfolding first
here a b text more id same clean = rw (piece_of a b text more id clean, named a b a b text same) refl

pub past : (a b c d : ℕ) (text more : List ℕ) → list_any is_bar (a ∷ b ∷ []) ≡ false
    → (eqb a c && eqb b d) ≡ false → is_whole text ≡ true
    → first c d (field (a ∷ b ∷ []) text ++ more) ≡ first c d more
unfolding first
past a b c d text more id apart clean = rw (piece_of a b text more id clean, other a b c d text apart) refl

pub past_given : (a b c d : ℕ) (text : Option (List ℕ)) (more : List ℕ)
    → list_any is_bar (a ∷ b ∷ []) ≡ false → (eqb a c && eqb b d) ≡ false
    → is_whole (unwrap_or text []) ≡ true
    → first c d (given (a ∷ b ∷ []) text ++ more) ≡ first c d more
unfolding given
past_given a b c d None more id apart clean = refl
past_given a b c d (Some text) more id apart clean = past a b c d text more id apart clean

-- nothing is left
pub nowhere : (c d : ℕ) → first c d [] ≡ None
unfolding first
nowhere c d = refl

pub past_filled : (a b c d : ℕ) (text : List ℕ) → list_any is_bar (a ∷ b ∷ []) ≡ false
    → (eqb a c && eqb b d) ≡ false → is_whole text ≡ true
    → first c d (filled (a ∷ b ∷ []) text) ≡ None
unfolding filled
past_filled a b c d [] id apart clean = nowhere c d
past_filled a b c d (x ∷ text) id apart clean =
    rw (← append-nil (field (a ∷ b ∷ []) (x ∷ text))) (past a b c d (x ∷ text) [] id apart clean ∙ nowhere c d)

-- what was found is the first of the pieces so far; with one more piece it is that, or else the
-- text of this piece
either : (found next : Option (Bor (List ℕ)))
    → option_copied (option_or found next) ≡ or_else (option_copied found) (option_copied next)
either None next = refl
either (Some x) next = refl

pub next_piece : (a b : ℕ) (found next : Option (Bor (List ℕ))) (ps : List (Bor (List ℕ)))
    (p : Bor (List ℕ)) → option_copied found ≡ first_of a b (map (λ x. x.now) ps)
    → option_copied next ≡ text_after a b p.now
    → option_copied (option_or found next) ≡ first_of a b (map (λ x. x.now) (ps ++ p ∷ []))
next_piece a b found next ps p was is =
    rw (map_push (λ (x : Bor (List ℕ)). x.now) ps p, field_push a b (map (λ x. x.now) ps) p.now, ← was, ← is) (either found next)
