use Rattle.std.proofs.lemmas.Result.{err_from_is_err_and}
use Rattle.journal_run.specs.Printing.{to_print}
use Rattle.journal_run.proofs.Causes.{useless-quiet}
use Rattle.journal_run.proofs.Shown.{quiet}
use Rattle.journal_run.proofs.running.print_good.Goals as goal

pub returns-in_err-refuse_odd-clause-stops : goal.returns-in_err-refuse_odd-clause-stops
returns-in_err-refuse_odd-clause-stops g c =
    let p = err_from_is_err_and c.from_residual.result c.from_residual.ensures.1 in rw (p.1, p.2)
    (quiet (to_print c.args.making.now) _ _ (useless-quiet _ c.in_err-refuse_odd.ensures.cause.0))
