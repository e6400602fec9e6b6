use Rattle.std.proofs.Common.{inl, inr}
use Rattle.whole_run.proofs.replaying.run.Goals as goal

pub returns-in-Ok : goal.returns-in-Ok
returns-in-Ok g c =
    let d = c.do_as_asked.ensures in
    (d.0, d.1, inl (c.in-Ok.options, c.in-Ok.ensures.ends, c.in-Ok.ensures.given, d.2))

pub returns-in-Err : goal.returns-in-Err
returns-in-Err g c =
    let d = c.refuse.ensures in
    (d.0, d.1, inr (c.in-Err.refusal, c.in-Err.ensures.ends, c.in-Err.ensures.accepts, d.2))
