use Rattle.std.proofs.Common.{take}
use Rattle.std.specs.Prelude.{flat_map}
use Rattle.why_run.specs.Actions.{Gets}
use Rattle.why_run.specs.Plan.{case_plan}
use Rattle.why_run.proofs.plan.add_cases_in.Given as goal

abbrev pub invariant-loop-case : goal.invariant-loop-case
invariant-loop-case l = Gets (flat_map (case_plan l.folder l.made.policy.items) (take l.case-index l.case-items)) l.fn.actions.items l.actions.items
