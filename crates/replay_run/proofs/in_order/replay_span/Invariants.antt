use Rattle.replay_run.specs.InOrder.{HasReplayed}
use Rattle.replay_run.proofs.in_order.replay_span.Given as goal

abbrev pub invariant-loop-i : goal.invariant-loop-i
invariant-loop-i g l = HasReplayed g.J.PlanName.plan l.from l.i (record { live = l.live; answers = l.answers })
