use Rattle.std.proofs.Common.{◌≡◌, map}
use Rattle.std.specs.List.{range_with_len}
use Rattle.result_report.specs.Report.{answers_behind}
use Rattle.result_report.proofs.ends.collect.Given as goal

abbrev pub invariant-loop-i : goal.invariant-loop-i
invariant-loop-i g l = record {
  answers : answers_behind l.answers.items ≡ map (g.E.End.answered l.end) (range_with_len l.first l.i);
  attempts : l.attempts.items ≡ map (g.E.End.attempted l.end) (range_with_len l.first l.i);
}
