use Rattle.std.proofs.Common.{◌≡◌, ◌++◌, List, Option, length, take}
use Rattle.sip_answer.specs.declared.answer.Answer.{Answer}
use Rattle.result_report.specs.Report.{line_results}
use Rattle.result_report.specs.Tellings.{Tells}
use Rattle.result_report.proofs.telling.Telling.lines.Given as goal

-- the lines so far, after those before them
abbrev pub invariant-loop-i : goal.invariant-loop-i
invariant-loop-i l =
    (before : List (Option Answer)) → length before ≡ l.told → Tells (line_results l.journal l.plan.readings before) l.initial.self
    → Tells (line_results l.journal l.plan.readings (before ++ take l.i l.answers)) l.self
