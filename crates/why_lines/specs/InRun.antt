-- What a case says of its line in the whole run.
use Rattle.std.specs.Prelude.{◌≡◌, ℕ, List, [], ◌∷◌, Some, slice_get}
use Rattle.journal_table.specs.Entry.{Entry, Numbered}
use Rattle.read_set.specs.Plans.{Planned, beginning, readings_of}
use Rattle.result_report.specs.Report.{LineResult}
use Rattle.replay_run.specs.OneThread.{results_by_plan}
use Rattle.why_lines.specs.Cases.{in_run}

-- the result of a line that a case has is the one from which the whole run writes its row, at the place that the line has in the journal
abbrev pub CasesAreOfTheRun : Type 0
CasesAreOfTheRun = (plan : Planned) (lines : List Entry) (i : ℕ) (line : Entry) → plan.readings ≡ readings_of lines → plan.first ≡ beginning lines → Numbered lines
    → slice_get lines i ≡ Some line → (r : LineResult) × (in_run plan line ≡ r ∷ []) × (slice_get (results_by_plan plan lines) i ≡ Some r)
