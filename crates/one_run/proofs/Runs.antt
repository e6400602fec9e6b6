-- A line with its rows more or less.
use Rattle.std.proofs.Common.{◌≡◌, ◌++◌, ◌∷◌, ◌&&◌, ◌==◌, ◌∙◌, ℕ, Bool, true, List, [], Option, Some, None, length, refl, sym, ap, ap₂, append-nil, append_assoc, arith}
use Rattle.std.specs.Prelude.{option_map}
use Rattle.one_run.specs.OneRun.{Row, Taken, are_of, is_answered, is_one_run, is_passed, is_wrong, lines_that}
use Rattle.one_run.specs.declared.fate.Fate.{Fate}

same-length : (fate : Fate) (fates : List Fate) (line : Row) (lines : List Row) → (length (fate ∷ fates) == length (line ∷ lines)) ≡ (length fates == length lines)
same-length fate fates line lines = grind arith

on-rows : (fate : Fate) (fates : List Fate) (line : Row) (j a a' p p' r r' : Option (List Row)) → Taken (is_answered fate) line a a' → Taken (is_passed fate) line p p' → Taken (is_wrong fate) line r r'
    → is_one_run (fate ∷ fates) (option_map (λ (rest : List Row). line ∷ rest) j) a p r ≡ is_one_run fates j a' p' r'
on-rows fate fates line None a a' p p' r r' ta tp tr = refl
on-rows fate fates line (Some lines) a a' p p' r r' ta tp tr =
    ap₂ (λ (x y : Bool). x && y) (same-length fate fates line lines)
    (ap₂ (λ (x y : Bool). x && y) (ta (lines_that is_answered fates lines))
    (ap₂ (λ (x y : Bool). x && y) (tp (lines_that is_passed fates lines)) (tr (lines_that is_wrong fates lines))))

-- the fates so far and one more
pub goes-on : (is : List Fate → Bool) (so_far : List Fate) (fate : Fate) (line : Row) (before j a a' p p' r r' : Option (List Row))
    → ((fates : List Fate) → is (so_far ++ fates) ≡ is_one_run fates before a p r)
    → before ≡ option_map (λ (rest : List Row). line ∷ rest) j
    → Taken (is_answered fate) line a a' → Taken (is_passed fate) line p p' → Taken (is_wrong fate) line r r'
    → (fates : List Fate) → is ((so_far ++ fate ∷ []) ++ fates) ≡ is_one_run fates j a' p' r'
goes-on is so_far fate line before j a a' p p' r r' inv first ta tp tr fates =
    ap is (append_assoc so_far (fate ∷ []) fates)
    ∙ inv (fate ∷ fates)
    ∙ ap (λ (rows : Option (List Row)). is_one_run (fate ∷ fates) rows a p r) first
    ∙ on-rows fate fates line j a a' p p' r r' ta tp tr

-- at the end of all tables
pub ends : (is : List Fate → Bool) (fates : List Fate) (j a p r : Option (List Row))
    → ((more : List Fate) → is (fates ++ more) ≡ is_one_run more j a p r)
    → j ≡ Some [] → are_of a [] ≡ true → are_of p [] ≡ true → are_of r [] ≡ true → is fates ≡ true
ends is fates j a p r inv none ea ep er =
    sym (ap is (append-nil fates))
    ∙ inv []
    ∙ ap (λ (rows : Option (List Row)). is_one_run [] rows a p r) none
    ∙ ap₂ (λ (x y : Bool). x && y) ea (ap₂ (λ (x y : Bool). x && y) ep er)
