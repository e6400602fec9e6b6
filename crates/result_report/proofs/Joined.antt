-- Words that are joined, by what they say.
use Rattle.std.proofs.Common.{◌≡◌, ◌∙◌, ℕ, List, [], ◌∷◌, ◌++◌, map, refl, sym, ap, Bor}
use Rattle.std.specs.List.{flat_map, join_by}
use Rattle.sip_answer.specs.Words.{word_of}
use Rattle.sip_answer.specs.declared.field.Field.{Field}

parts : {X : Type 0} (f : X → List ℕ) (sep : List ℕ) (xs : List X)
    → flat_map (λ y. sep ++ f y) xs ≡ flat_map (λ y. sep ++ y) (map f xs)
parts f sep [] = refl
parts f sep (x ∷ xs) = ap (λ (rest : List ℕ). (sep ++ f x) ++ rest) (parts f sep xs)

by-texts : {X : Type 0} (f : X → List ℕ) (sep : List ℕ) (xs : List X)
    → join_by f sep xs ≡ join_by (λ (y : List ℕ). y) sep (map f xs)
by-texts f sep [] = refl
by-texts f sep (x ∷ xs) = ap (λ (rest : List ℕ). f x ++ rest) (parts f sep xs)

pub joined : (words : List (Bor (List ℕ))) (fields : List Field) (sep : List ℕ)
    → map (λ w. w.now) words ≡ map word_of fields
    → join_by (λ w. w.now) sep words ≡ join_by word_of sep fields
joined words fields sep same = by-texts (λ (w : Bor (List ℕ)). w.now) sep words ∙ ap (λ (texts : List (List ℕ)). join_by (λ (y : List ℕ). y) sep texts) same ∙ sym (by-texts word_of sep fields)
