use Rattle.std.proofs.lemmas.Result.{err_from_is_err_and}
use Rattle.journal_run.proofs.UnderWay.{under-broken, under-printed}
use Rattle.journal_run.proofs.running.print_full.Goals as goal

pub returns-in_err-print_good-clause-stops : goal.returns-in_err-print_good-clause-stops
returns-in_err-print_good-clause-stops g c =
    let s = c.args.source.now in
    let p = err_from_is_err_and c.from_residual.result c.from_residual.ensures.1 in rw (p.1, p.2)
    (λ first begin start found under. under-broken first c.args.force _ (g.S.ExchangeSource.fails s) (g.S.ExchangeSource.at_end s) begin _ _ start found c.args.making.now _ under
    c.in_err-print_good.ensures.cause c.in_err-print_good.ensures.stops)

pub returns-clause-goes : goal.returns-clause-goes
returns-clause-goes g c first begin start found under =
    under-printed first begin _ _ start found c.args.making.now c.print_good.new.making under c.in_ok-print_good.ensures.printed c.in_ok-print_good.ensures.text
