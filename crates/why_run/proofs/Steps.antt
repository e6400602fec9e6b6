-- How the log of a run goes on while the steps of a plan are taken.
use Rattle.std.proofs.Common.{get_or, length, ◌≡◌, ◌++◌, ◌∷◌, ◌≤◌, ℕ, ◌+◌, ◌<◌, ◌∙◌, [], List, Option, ap, drop, inl, inr, map, refl, subst, sym, take}
use Rattle.std.proofs.lemmas.List.{drop_more, map-append, take-append-drop, take_all, take_more}
use Rattle.outside.proofs.Steps.{both}
use Rattle.outside.specs.Events.{Did, Event, after, noted}
use Rattle.why_run.specs.Actions.{planned}
use Rattle.why_run.specs.Writing.{AreTaken, Fails, GoesOn, Planned, StopsTaking, removal}
use Rattle.why_run.specs.declared.action.Action.{Action}
use Rattle.why_run.specs.declared.stop.WhyStop.{WhyStop}

taken_append : (xs : List Planned) (es : List Event) (ys : List Planned) (fs : List Event)
    → AreTaken xs es → AreTaken ys fs → AreTaken (xs ++ ys) (es ++ fs)
taken_append [] [] ys fs h k = k
taken_append [] (e ∷ es) ys fs h k = absurd h
taken_append (x ∷ xs) [] ys fs h k = absurd h
taken_append (x ∷ xs) (e ∷ es) ys fs (p, h) k = (p, taken_append xs es ys fs h k)

stops_append : (xs : List Planned) (es : List Event) (ys : List Planned) (stop : WhyStop) (fs : List Event)
    → AreTaken xs es → StopsTaking ys stop fs → StopsTaking (xs ++ ys) stop (es ++ fs)
stops_append [] [] ys stop fs h k = k
stops_append [] (e ∷ es) ys stop fs h k = absurd h
stops_append (x ∷ xs) [] ys stop fs h k = absurd h
stops_append (x ∷ xs) (e ∷ es) ys stop fs (p, h) k = inl (p, stops_append xs es ys stop fs h k)

-- a step that goes on
abbrev pub Goes : Action → Option (List Event) → Option (List Event) → Type 0
Goes action old new = (event : Event) × (new ≡ noted event old) × GoesOn (planned action).0 event

-- a step that fails, after which a folder is removed
abbrev pub Breaks : Action → WhyStop → Option (List Event) → Option (List Event) → Type 0
Breaks action stop old new = (event : Event) × (new ≡ after (removal (planned action).1) (noted event old)) × Fails (planned action).0 event stop

-- one step more
pub step_more : (items : List Action) (i : ℕ) (item : Action) (old mid new : Option (List Event))
    → i < length items → item ≡ get_or items i item
    → Did (AreTaken (map planned (take i items))) old mid → Goes item mid new
    → Did (AreTaken (map planned (take (i + 1) items))) old new
step_more items i item old mid new l h (es, p, t) (e, q, k) =
    let m : map planned (take (i + 1) items) ≡ map planned (take i items) ++ planned item ∷ []
    = ap (map planned) (take_more items i item l ∙ ap (λ x. take i items ++ x ∷ []) (sym h)) ∙ map-append planned (take i items) (item ∷ []) in
    subst (λ steps. Did (AreTaken steps) old new) (sym m)
    (es ++ e ∷ [], both es (e ∷ []) old mid new p q, taken_append (map planned (take i items)) es (planned item ∷ []) (e ∷ []) t (k, tt))

-- a step that fails
pub step_fails : (items : List Action) (i : ℕ) (item : Action) (stop : WhyStop) (old mid new : Option (List Event))
    → i < length items → item ≡ get_or items i item
    → Did (AreTaken (map planned (take i items))) old mid → Breaks item stop mid new
    → Did (StopsTaking (map planned items) stop) old new
step_fails items i item stop old mid new l h (es, p, t) (e, q, k) =
    let parts : items ≡ take i items ++ item ∷ drop (i + 1) items
    = sym (take-append-drop i items) ∙ ap (λ t. take i items ++ t) (drop_more items i item l ∙ ap (λ x. x ∷ drop (i + 1) items) (sym h)) in
    let m : map planned items ≡ map planned (take i items) ++ planned item ∷ map planned (drop (i + 1) items)
    = ap (map planned) parts ∙ map-append planned (take i items) (item ∷ drop (i + 1) items) in
    let fs : List Event = e ∷ removal (planned item).1 in
    subst (λ steps. Did (StopsTaking steps stop) old new) (sym m) (
      es ++ fs,
      both es fs old mid new p q,
      stops_append (map planned (take i items)) es (planned item ∷ map planned (drop (i + 1) items)) stop fs t (inr (k, refl)),
    )

-- all steps
pub steps_all : (items : List Action) (i : ℕ) (old new : Option (List Event))
    → length items ≤ i → Did (AreTaken (map planned (take i items))) old new → Did (AreTaken (map planned items)) old new
steps_all items i old new l h = subst (λ xs. Did (AreTaken (map planned xs)) old new) (take_all i items l) h
