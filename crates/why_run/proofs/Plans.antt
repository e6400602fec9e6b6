-- How a plan grows.
use Rattle.std.proofs.Common.{get_or, length, ◌≡◌, ◌++◌, ◌∷◌, ◌≤◌, ℕ, ◌+◌, ◌<◌, ◌∙◌, [], List, ap, append_assoc, map, subst, sym, take}
use Rattle.std.specs.Prelude.{flat_map}
use Rattle.std.proofs.lemmas.Grind.{flat_map-append}
use Rattle.std.proofs.lemmas.List.{append-nil, map-append, take_all, take_more}
use Rattle.why_run.specs.Actions.{Gets, planned}
use Rattle.why_run.specs.Writing.{Planned}
use Rattle.why_run.specs.declared.action.Action.{Action}
use Rattle.why_run.specs.declared.texts.CaseTexts.{CaseTexts}

-- one action more
pub gets_one : (action : Action) (old new : List Action) → new ≡ old ++ action ∷ [] → Gets (planned action ∷ []) old new
gets_one action old new h = ap (map planned) h ∙ map-append planned old (action ∷ [])

-- steps after steps
pub then : (xs ys : List Planned) (old mid new : List Action) → Gets xs old mid → Gets ys mid new → Gets (xs ++ ys) old new
then xs ys old mid new h k = k ∙ ap (λ steps. steps ++ ys) h ∙ append_assoc (map planned old) xs ys

-- the steps of one case more
pub cases_more : (f : CaseTexts → List Planned) (items : List CaseTexts) (i : ℕ) (item : CaseTexts) (old mid new : List Action)
    → i < length items → item ≡ get_or items i item → Gets (flat_map f (take i items)) old mid → Gets (f item) mid new
    → Gets (flat_map f (take (i + 1) items)) old new
cases_more f items i item old mid new l h before now =
    let t : take (i + 1) items ≡ take i items ++ item ∷ [] = take_more items i item l ∙ ap (λ x. take i items ++ x ∷ []) (sym h) in
    let m : flat_map f (take (i + 1) items) ≡ flat_map f (take i items) ++ f item
    = ap (flat_map f) t ∙ flat_map-append f (take i items) (item ∷ []) ∙ ap (λ x. flat_map f (take i items) ++ x) (append-nil (f item)) in
    subst (λ steps. Gets steps old new) (sym m)
    (then (flat_map f (take i items)) (f item) old mid new before now)

-- those of all
pub cases_all : (f : CaseTexts → List Planned) (items : List CaseTexts) (i : ℕ) (old new : List Action)
    → length items ≤ i → Gets (flat_map f (take i items)) old new → Gets (flat_map f items) old new
cases_all f items i old new l h = subst (λ xs. Gets (flat_map f xs) old new) (take_all i items l) h
