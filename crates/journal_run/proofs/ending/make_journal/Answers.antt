use Rattle.journal_run.proofs.Ends.{journal-printed, journal-stopped, journal-useless}
use Rattle.journal_run.proofs.UnderWay.{under-first}
use Rattle.journal_run.proofs.ending.make_journal.Goals as goal

pub returns-in-Ok : goal.returns-in-Ok
returns-in-Ok g c =
    let s = c.run_through.new.source in
    journal-printed c.args.rows c.args.force (g.S.ExchangeSource.counts s) (g.S.ExchangeSource.fails s) (g.S.ExchangeSource.at_end s) _ _ _ c.run_through.new.making _ _ _
    (c.in-Ok.ensures.printed c.args.rows _ _ (under-first c.args.rows _ _ c.new-making.result c.new-making.ensures.stays c.new-making.ensures.begun)) c.in-Ok.ensures.end c.in-Ok.ensures.wanted c.end.ensures

pub returns-in-Err-Useless : goal.returns-in-Err-Useless
returns-in-Err-Useless g c =
    let s = c.run_through.new.source in
    journal-useless c.args.rows c.args.force (g.S.ExchangeSource.counts s) (g.S.ExchangeSource.fails s) (g.S.ExchangeSource.at_end s) _ _ _ c.in-Err-Useless.why _ _ _
    (rw (c.in-Err-Useless.field-0-is) at (c.in-Err-Useless.ensures.stops c.args.rows _ _ (under-first c.args.rows _ _ c.new-making.result c.new-making.ensures.stays c.new-making.ensures.begun)))
    c.end_useless.ensures

pub returns : goal.returns
returns g c =
    let s = c.run_through.new.source in
    journal-stopped c.args.rows c.args.force (g.S.ExchangeSource.counts s) (g.S.ExchangeSource.fails s) (g.S.ExchangeSource.at_end s) _ _ _ c.in-Err.stop _ _ _
    (c.in-Err.ensures.stops c.args.rows _ _ (under-first c.args.rows _ _ c.new-making.result c.new-making.ensures.stays c.new-making.ensures.begun)) c.end_stopped.ensures
