use Rattle.std.proofs.Common.{◌≡◌, ◌<◌}
use Rattle.result_report.specs.Report.{answers_behind, line_results}
use Rattle.result_report.specs.Stretches.{between}
use Rattle.result_report.specs.Tellings.{Tells}
use Rattle.result_report.proofs.texts.write_lines.Given as goal

abbrev pub invariant-loop-position : goal.invariant-loop-position
invariant-loop-position l = record {
  line_results : Tells (between l.from l.position
      (line_results l.lines l.plan.readings (answers_behind l.answers))) l.telling;
  begun : l.to < l.from → l.position ≡ l.from;
}
