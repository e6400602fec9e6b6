use Rattle.std.proofs.Common.{inl, refl}
use Rattle.why_run.proofs.action.taken.Goals as goal

pub returns-in-Ok : goal.returns-in-Ok
returns-in-Ok c = inl (c.in-Ok.path, refl, c.in-Ok.ensures.ok)
