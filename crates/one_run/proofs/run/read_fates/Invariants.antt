use Rattle.std.proofs.Common.{◌≡◌, ◌++◌, List}
use Rattle.one_run.specs.OneRun.{is_one_run}
use Rattle.one_run.specs.declared.fate.Fate.{Fate}
use Rattle.one_run.proofs.run.read_fates.Given as goal

-- the fates so far and any of the lines that are left are fates of the whole run just where these are fates of what is left
abbrev pub invariant-loop-line : goal.invariant-loop-line
invariant-loop-line l =
    (fates : List Fate) → is_one_run (l.fates.items ++ fates) l.fn.journal.rows l.fn.output.answers l.fn.output.passed l.fn.output.report
    ≡ is_one_run fates l.journal.rows l.output.answers l.output.passed l.output.report

abbrev pub decreases-loop-line : goal.decreases-loop-line
decreases-loop-line l = l.journal.size
