use Rattle.std.proofs.Common.{◌*◌, take}
use Rattle.result_report.specs.Report.{answers_behind, line_results}
use Rattle.result_report.specs.Tables.{AreHeads, AreTexts}
use Rattle.result_report.proofs.texts.report_parallel.Given as goal

-- the lines of the batches so far
abbrev pub invariant-loop-batch : goal.invariant-loop-batch
invariant-loop-batch g l = record {
  heads : AreHeads l.heads;
  told : AreTexts (take (l.batch * 8 * 4096) (line_results l.lines l.plan.readings (answers_behind l.answers))) l.whole;
}
