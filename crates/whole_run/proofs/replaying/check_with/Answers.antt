use Rattle.std.proofs.Common.{◌∷◌, [], inl, inr, refl}
use Rattle.outside.proofs.Steps.{both}
use Rattle.whole_run.proofs.replaying.check_with.Goals as goal

pub returns-in-Ok : goal.returns-in-Ok
returns-in-Ok g c = let d = c.in-Ok.ensures.ended in (d.0, d.1, inl d.2)

pub returns-in-Err : goal.returns-in-Err
returns-in-Err g c =
    let s = c.in-Err.ensures.stops in
    let t = c.say_why.ensures.told in
    (_, both s.0 (_ ∷ []) _ _ _ s.1 t.1, inr (c.in-Err.stop, s.0, _, t.0, s.2, c.asked_of.ensures, refl, c.say_why.ensures.status))
