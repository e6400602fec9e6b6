use Rattle.std.proofs.Common.{◌++◌, ◌∷◌, ◌∙◌, [], ap, inl, inr, refl}
use Rattle.outside.proofs.Steps.{both}
use Rattle.outside.specs.Events.{noted}
use Rattle.journal_run.proofs.ending.end_useless.Goals as goal

pub returns-then-is_err : goal.returns-then-is_err
returns-then-is_err g c = (_ ∷ [], c.tell.ensures.told.1, inr (c.tell.ensures.told.0, refl, c.tell.ensures.status))

pub returns : goal.returns
returns g c =
    let n = c.tell_notes.ensures in
    let t = c.tell-status.ensures.told in
    (n.0 ++ _ ∷ _ ∷ [], both n.0 (_ ∷ _ ∷ []) _ _ _ n.1 (c.tell-told.ensures ∙ ap (noted _) t.1), inl (n.0, _ ∷ [], t.0, n.2, refl, refl, c.tell-status.ensures.status))
