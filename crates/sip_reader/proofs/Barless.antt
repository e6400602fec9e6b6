-- Pieces and the field that counts.
use Rattle.std.proofs.Common.{◌≡◌, ℕ, suc, Bool, true, false, not, eqb, List, [], ◌∷◌, ◌++◌, length, Option, Some, None, refl, arith}
use Rattle.std.specs.List.{list_all, list_any, onto_first}
use Rattle.std.proofs.lemmas.Bool.{and_from, and_parts, cond_both, le-leb}
use Rattle.std.proofs.lemmas.Grind.{common_steps}
use Rattle.sip_reader.specs.Fields.{field, or_else, pieces, text_after}

abbrev barless : List ℕ → Bool
barless piece = not (list_any (λ b. eqb b 124) piece)

one_more : (x : ℕ) (piece : List ℕ) → eqb x 124 ≡ false → barless piece ≡ true → barless (x ∷ piece) ≡ true
one_more x piece other h = rw other h

onto : (x : ℕ) (ps : List (List ℕ)) → eqb x 124 ≡ false → list_all barless ps ≡ true
    → list_all barless (onto_first x ps) ≡ true
onto x [] other h = rw other refl
onto x (p ∷ ps) other h =
    let parts = and_parts (barless p) (list_all barless ps) h in
    and_from (barless (x ∷ p)) (list_all barless ps) (one_more x p other parts.0) parts.1

pub all_barless : (rest : List ℕ) → list_all barless (pieces rest) ≡ true
all_barless [] = refl
all_barless (x ∷ xs) = cond_both (eqb x 124) ([] ∷ pieces xs) (onto_first x (pieces xs)) (λ ps. list_all barless ps ≡ true) (λ e. all_barless xs) (λ e. onto x (pieces xs) e (all_barless xs))

same : (x : ℕ) → eqb x x ≡ true
same x = grind (arith, common_steps)

none : (x y : Option (List ℕ)) → or_else x y ≡ None → (x ≡ None) × (y ≡ None)
none None y e = (refl, e)
none (Some t) y e = cc e

pub first_counts : (a b : ℕ) (before after : List (List ℕ)) (text : List ℕ)
    → field a b before ≡ None → field a b (before ++ (a ∷ b ∷ text) ∷ after) ≡ Some text
first_counts a b [] after text e = rw (le-leb 2 (suc (suc (length text))) (omega arith), same a, same b) refl
first_counts a b (p ∷ ps) after text e =
    let parts = none (text_after a b p) (field a b ps) e in
    rw parts.0 (first_counts a b ps after text parts.1)
