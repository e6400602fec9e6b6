use Rattle.why_run.proofs.Plans.{cases_all, cases_more}
use Rattle.why_run.specs.Plan.{case_plan}
use Rattle.why_run.proofs.plan.add_cases_in.Goals as goal

pub loop-case-preserved : goal.loop-case-preserved
loop-case-preserved c =
    cases_more (case_plan c.args.folder.now c.args.made.now.policy.items) _ _ _ _ _ _ c.loop-case-test.true c.case-item.is c.loop-case.invariant
    (rw (c.as_slice.ensures.value) at c.in_ok-add_case.ensures)

pub returns : goal.returns
returns c =
    rw (c.as_slice-case-items.ensures.value) at
    (cases_all (case_plan c.args.folder.now c.args.made.now.policy.items) _ _ _ _ c.loop-case-test.false c.loop-case.invariant)
