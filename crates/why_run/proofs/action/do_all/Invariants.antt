use Rattle.std.proofs.Common.{map, take}
use Rattle.outside.specs.Events.{Did}
use Rattle.why_run.specs.Actions.{planned}
use Rattle.why_run.specs.Writing.{AreTaken}
use Rattle.why_run.proofs.action.do_all.Given as goal

abbrev pub invariant-loop-action : goal.invariant-loop-action
invariant-loop-action g l = Did (AreTaken (map planned (take l.action-index l.actions))) (g.O.Outside.log l.fn.outside) (g.O.Outside.log l.outside)
