use Rattle.std.proofs.lemmas.Result.{err_from_is_err_and}
use Rattle.journal_run.specs.Found.{said_in}
use Rattle.journal_run.proofs.Causes.{failing}
use Rattle.journal_run.proofs.Shown.{printed-none}
use Rattle.journal_run.proofs.UnderWay.{under-refused, under-source, under-taken}
use Rattle.journal_run.proofs.running.find_more.Goals as goal

pub returns-in_err-more-clause-stops : goal.returns-in_err-more-clause-stops
returns-in_err-more-clause-stops g c =
    let s = c.next.new.self in
    let p = err_from_is_err_and c.from_residual.result c.from_residual.ensures.1 in rw (p.1, p.2)
    (λ first begin start under. under-source first c.args.force (g.S.ExchangeSource.counts s) (g.S.ExchangeSource.fails s) (g.S.ExchangeSource.at_end s) begin _ _ start _ _
    (said_in c.next.new.batch.items) c.args.making.now c.in_err-more.field-0.0 under c.next.ensures.found (printed-none _) (failing (g.S.ExchangeSource.fails s) c.in_err-more.field-0.0 c.in_err-more.ensures.error))

pub returns-in_err-take_batch-clause-stops : goal.returns-in_err-take_batch-clause-stops
returns-in_err-take_batch-clause-stops g c =
    let s = c.next.new.self in
    let p = err_from_is_err_and c.from_residual-in_err-take_batch.result c.from_residual-in_err-take_batch.ensures.1 in rw (p.1, p.2)
    (λ first begin start under. under-refused first c.args.force (g.S.ExchangeSource.counts s) (g.S.ExchangeSource.fails s) (g.S.ExchangeSource.at_end s) begin _ _ start _ _
    (said_in c.next.new.batch.items) c.args.making.now c.take_batch.new.making c.in_err-take_batch.field-0.0 under c.next.ensures.found
    (rw (c.as_slice.ensures.value) at c.in_err-take_batch.ensures.stops) c.take_batch.ensures.told)

pub returns-in_err-print_full-clause-stops : goal.returns-in_err-print_full-clause-stops
returns-in_err-print_full-clause-stops g c =
    let p = err_from_is_err_and c.from_residual-in_err-print_full.result c.from_residual-in_err-print_full.ensures.1 in rw (p.1, p.2)
    (λ first begin start under. c.in_err-print_full.ensures.stops first begin start _
    (under-taken first begin _ _ start _ _ (said_in c.next.new.batch.items) c.args.making.now c.take_batch.new.making under c.next.ensures.found
    (rw (c.as_slice.ensures.value) at c.in_ok-take_batch.ensures.took) c.take_batch.ensures.told))

pub returns-clause-goes : goal.returns-clause-goes
returns-clause-goes g c first begin start under =
    c.in_ok-print_full.ensures.goes first begin start _
    (under-taken first begin _ _ start _ _ (said_in c.next.new.batch.items) c.args.making.now c.take_batch.new.making under c.next.ensures.found
    (rw (c.as_slice.ensures.value) at c.in_ok-take_batch.ensures.took) c.take_batch.ensures.told)
