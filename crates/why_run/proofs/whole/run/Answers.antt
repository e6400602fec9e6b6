use Rattle.std.proofs.Common.{inl, inr}
use Rattle.why_run.proofs.whole.run.Goals as goal

pub returns-in-Ok : goal.returns-in-Ok
returns-in-Ok g c = let d = c.explain.ensures in (d.0, d.1, inl (c.in-Ok.options, c.in-Ok.ensures.together, d.2))

pub returns-in-Err : goal.returns-in-Err
returns-in-Err g c = let d = c.refuse.ensures in (d.0, d.1, inr (c.in-Err.refusal, d.2))
