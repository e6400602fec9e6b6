use Rattle.std.proofs.Common.{map, take}
use Rattle.why_run.specs.Actions.{Gets}
use Rattle.why_run.specs.Plan.{remark_step}
use Rattle.why_run.proofs.plan.add_remarks.Given as goal

abbrev pub invariant-loop-remark : goal.invariant-loop-remark
invariant-loop-remark l = Gets (map remark_step (take l.remark-index l.remarks)) l.fn.actions.items l.actions.items
