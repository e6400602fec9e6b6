use Rattle.std.proofs.Common.{◌++◌, ◌∷◌, [], inl, inr, refl}
use Rattle.outside.proofs.Steps.{both}
use Rattle.why_run.proofs.whole.write_made.Goals as goal

pub returns-in-Ok : goal.returns-in-Ok
returns-in-Ok g c =
    let d = c.in-Ok.ensures.written in (d.0, d.1, inl (d.2, rw (c.as_slice.ensures.value) at c.status_of.ensures))

pub returns-in-Err : goal.returns-in-Err
returns-in-Err g c =
    let s = c.in-Err.ensures.stops in
    let t = c.tell.ensures.told in
    (s.0 ++ _ ∷ [], both s.0 (_ ∷ []) _ _ _ s.1 t.1, inr (c.in-Err.stop, s.0, _ ∷ [], refl, s.2, (t.0, refl, c.tell.ensures.status)))
