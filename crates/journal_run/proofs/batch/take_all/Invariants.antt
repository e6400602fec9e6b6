use Rattle.std.proofs.Common.{take}
use Rattle.journal_run.specs.Found.{said_in}
use Rattle.journal_run.specs.Making.{TakesAll}
use Rattle.journal_run.proofs.batch.take_all.Given as goal

-- those so far were taken
abbrev pub invariant-loop-one : goal.invariant-loop-one
invariant-loop-one l = TakesAll (said_in (take l.one-index l.batch)) l.initial.making l.making
