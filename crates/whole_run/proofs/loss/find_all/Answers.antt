use Rattle.std.proofs.lemmas.Result.{err_from_is_err_and}
use Rattle.std.specs.Prelude.{string_bytes}
use Rattle.whole_run.proofs.Looks.{look_fails, look_more}
use Rattle.whole_run.proofs.loss.find_all.Goals as goal

pub returns-in_err-push-clause-stops : goal.returns-in_err-push-clause-stops
returns-in_err-push-clause-stops g c =
    let p = err_from_is_err_and c.from_residual-in_err-push.result c.from_residual-in_err-push.ensures.1 in rw (p.1)
    (look_fails _ _ _ _ _ _ _ c.loop-path.invariant c.find-file.ensures)

pub loop-path-preserved : goal.loop-path-preserved
loop-path-preserved g c =
    rw (c.in_ok-push.ensures.items)
    (look_more string_bytes _ _ _ _ _ _ _ _ _ c.loop-path-test.true c.path-item.is c.as_str.ensures.value c.loop-path.invariant c.find-file.ensures)
