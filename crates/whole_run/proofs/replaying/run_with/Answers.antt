use Rattle.std.proofs.Common.{◌++◌, ◌∷◌, [], inl, inr, refl}
use Rattle.outside.proofs.Steps.{both}
use Rattle.whole_run.specs.Doubting.{doubts_events}
use Rattle.whole_run.proofs.replaying.run_with.Goals as goal

pub returns-in-Ok : goal.returns-in-Ok
returns-in-Ok g c =
    let s = c.in-Ok.ensures.ended in
    let t = c.tell_doubts.ensures in
    let told = doubts_events c.in-Ok.ended.doubts t.0 in (
      s.0 ++ told,
      both s.0 told _ _ _ s.1 t.1,
      inl (c.in-Ok.ended.sizes, s.0, told, s.2, (c.in-Ok.ended.doubts, t.0, c.in-Ok.ensures.doubts, refl), refl, c.status.ensures),
    )

pub returns-in-Err : goal.returns-in-Err
returns-in-Err g c =
    let s = c.in-Err.ensures.stops in
    let t = c.say_why.ensures.told in
    (_, both s.0 (_ ∷ []) _ _ _ s.1 t.1, inr (c.in-Err.stop, s.0, _, t.0, s.2, c.asked_of.ensures, refl, c.say_why.ensures.status))
