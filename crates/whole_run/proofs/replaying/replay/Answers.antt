use Rattle.std.proofs.Common.{inr, refl}
use Rattle.whole_run.specs.Run.{writes_of}
use Rattle.outside.proofs.Steps.{one_more}
use Rattle.whole_run.proofs.replaying.replay.Goals as goal

pub returns-then-print-clause-ended : goal.returns-then-print-clause-ended
returns-then-print-clause-ended g c =
    let w = c.in_ok-ended.ensures.written in (
      _,
      one_more w.2.1 (writes_of c.args.options.now w.2.0) w.0 _ _ _ _ w.2.4 w.1 (rw (c.if-print.true) at c.print.ensures),
      (w.2.0, w.2.1, w.2.2, w.2.3, refl),
    )

pub returns-clause-stops : goal.returns-clause-stops
returns-clause-stops g c =
    let w = c.in_ok-ended.ensures.written in (
      _,
      one_more w.2.1 (writes_of c.args.options.now w.2.0) w.0 _ _ _ _ w.2.4 w.1 (rw (c.if-print.false, w.2.3) at c.print.ensures),
      inr (inr (inr (w.2.0, w.2.1, w.2.2, refl, refl))),
    )
