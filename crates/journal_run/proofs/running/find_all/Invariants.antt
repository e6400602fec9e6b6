use Rattle.std.proofs.Common.{ℕ, List, Option}
use Rattle.log_pairs.specs.Pairs.{Said}
use Rattle.outside.specs.Events.{Event}
use Rattle.journal_run.specs.Run.{IsUnderWay}
use Rattle.journal_run.specs.declared.making.JournalRows.{JournalRows}
use Rattle.journal_run.proofs.running.find_all.Given as goal

-- the journal stays under way
abbrev pub invariant-loop-turn : goal.invariant-loop-turn
invariant-loop-turn g l = (first : JournalRows) (begin : Option (List Event)) (start : Option (List Said)) → IsUnderWay first begin (g.O.Outside.log l.initial.outside) start (g.S.ExchangeSource.found l.initial.source) l.initial.making
    → IsUnderWay first begin (g.O.Outside.log l.outside) start (g.S.ExchangeSource.found l.source) l.making
