use Rattle.std.proofs.lemmas.Result.{err_from_is_err_and}
use Rattle.why_run.proofs.Steps.{step_fails, step_more, steps_all}
use Rattle.why_run.proofs.action.do_all.Goals as goal

pub returns-in_err-do_whole-clause-stops : goal.returns-in_err-do_whole-clause-stops
returns-in_err-do_whole-clause-stops g c =
    let p = err_from_is_err_and c.from_residual.result c.from_residual.ensures.1 in rw (p.1, p.2)
    (step_fails _ _ _ _ _ _ _ c.loop-action-test.true c.action-item.is c.loop-action.invariant c.in_err-do_whole.ensures.stops)

pub loop-action-preserved : goal.loop-action-preserved
loop-action-preserved g c =
    step_more _ _ _ _ _ _ c.loop-action-test.true c.action-item.is c.loop-action.invariant c.in_ok-do_whole.ensures.done

pub returns-clause-done : goal.returns-clause-done
returns-clause-done g c = steps_all _ _ _ _ c.loop-action-test.false c.loop-action.invariant
