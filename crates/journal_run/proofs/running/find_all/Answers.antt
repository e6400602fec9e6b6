use Rattle.std.proofs.lemmas.Result.{err_from_is_err_and}
use Rattle.journal_run.proofs.UnderWay.{under-ended}
use Rattle.journal_run.proofs.running.find_all.Goals as goal

pub returns-in_err-find_more-clause-stops : goal.returns-in_err-find_more-clause-stops
returns-in_err-find_more-clause-stops g c =
    let p = err_from_is_err_and c.from_residual.result c.from_residual.ensures.1 in rw (p.1, p.2)
    (λ first begin start under. c.in_err-find_more.ensures.stops first begin start (c.loop-turn.invariant first begin start under))

pub returns-then-not-branch-clause-goes : goal.returns-then-not-branch-clause-goes
returns-then-not-branch-clause-goes g c first begin start under = c.in_ok-find_more.ensures.goes first begin start (c.loop-turn.invariant first begin start under)

pub loop-turn-preserved : goal.loop-turn-preserved
loop-turn-preserved g c first begin start under = c.in_ok-find_more.ensures.goes first begin start (c.loop-turn.invariant first begin start under)

pub returns-clause-stops : goal.returns-clause-stops
returns-clause-stops g c first begin start under =
    let s = c.loop-turn.source in
    under-ended first c.args.force (g.S.ExchangeSource.counts s) (g.S.ExchangeSource.fails s) (g.S.ExchangeSource.at_end s) begin _ start _ c.loop-turn.making
    (c.loop-turn.invariant first begin start under)
