use Rattle.std.proofs.Common.{[]}
use Rattle.std.proofs.lemmas.Result.{err_from_is_err_and}
use Rattle.journal_run.specs.Printing.{to_print}
use Rattle.journal_run.specs.Run.{IsToBlame}
use Rattle.journal_run.proofs.Causes.{nothing-found, useless-quiet, wanted}
use Rattle.journal_run.proofs.Shown.{quiet}
use Rattle.journal_run.proofs.UnderWay.{closed-broken, closed-past, closed-printed, under-ended}
use Rattle.journal_run.proofs.running.run_through.Goals as goal

pub returns-in_err-close-clause-stops : goal.returns-in_err-close-clause-stops
returns-in_err-close-clause-stops g c =
    let s = c.find_all.new.source in
    let p = err_from_is_err_and c.from_residual-in_err-close.result c.from_residual-in_err-close.ensures.1 in rw (p.1, p.2)
    (λ first begin start under. under-ended first c.args.force (g.S.ExchangeSource.counts s) (g.S.ExchangeSource.fails s) (g.S.ExchangeSource.at_end s) begin _ start _ c.find_all.new.making
    (c.in_ok-find_all.ensures.goes first begin start under))

pub returns-in_err-check_found-clause-stops : goal.returns-in_err-check_found-clause-stops
returns-in_err-check_found-clause-stops g c =
    let s = c.find_all.new.source in
    let p = err_from_is_err_and c.from_residual-in_err-check_found.result c.from_residual-in_err-check_found.ensures.1 in
    let why = c.in_err-check_found.ensures.cause in rw (p.1, p.2)
    (λ first begin start under. closed-broken first c.args.force (g.S.ExchangeSource.counts s) (g.S.ExchangeSource.fails s) (g.S.ExchangeSource.at_end s) begin _ _ start _ c.find_all.new.making
    c.close.new.self _ (c.in_ok-find_all.ensures.goes first begin start under)
    c.in_ok-close.ensures.begun c.in_ok-close.ensures.closes
    (λ said taken closed. nothing-found c.args.force (g.S.ExchangeSource.counts s) (g.S.ExchangeSource.at_end s) (IsToBlame (g.S.ExchangeSource.fails s) first [] said) first said taken c.close.new.self _
    closed why.0 why.1 c.in_ok-find_all.ensures.end why.2)
    (quiet (to_print c.close.new.self) _ _ (useless-quiet _ why.0)))

pub returns-in_err-print_good-clause-stops : goal.returns-in_err-print_good-clause-stops
returns-in_err-print_good-clause-stops g c =
    let s = c.find_all.new.source in
    let p = err_from_is_err_and c.from_residual-in_err-print_good.result c.from_residual-in_err-print_good.ensures.1 in rw (p.1, p.2)
    (λ first begin start under. closed-broken first c.args.force (g.S.ExchangeSource.counts s) (g.S.ExchangeSource.fails s) (g.S.ExchangeSource.at_end s) begin _ _ start _ c.find_all.new.making
    c.close.new.self _ (c.in_ok-find_all.ensures.goes first begin start under)
    c.in_ok-close.ensures.begun c.in_ok-close.ensures.closes
    (λ said taken closed. closed-past c.args.force _ (g.S.ExchangeSource.fails s) _ first said taken c.close.new.self _ closed c.in_err-print_good.ensures.cause) c.in_err-print_good.ensures.stops)

pub returns-clause-wanted : goal.returns-clause-wanted
returns-clause-wanted g c =
    wanted c.args.force _ c.close.new.self.exchanges c.print_good.new.making.exchanges c.in_ok-print_good.ensures.printed.exchanges c.in_ok-check_found.ensures.found c.in_ok-print_good.ensures.good

pub returns-clause-printed : goal.returns-clause-printed
returns-clause-printed g c first begin start under =
    closed-printed first begin _ _ start _ c.find_all.new.making c.close.new.self c.print_good.new.making (c.in_ok-find_all.ensures.goes first begin start under)
    c.in_ok-close.ensures.begun c.in_ok-close.ensures.closes c.in_ok-print_good.ensures.printed c.in_ok-print_good.ensures.text
