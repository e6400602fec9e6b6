use Rattle.std.proofs.Common.{◌++◌, map}
use Rattle.std.specs.List.{range_with_len}
use Rattle.result_report.specs.Ends.{HasAt, lines_keys}
use Rattle.result_report.proofs.ends.collect_records.Given as goal

-- the records at the keys of the plan and of the lines so far
abbrev pub invariant-loop-i : goal.invariant-loop-i
invariant-loop-i g l = HasAt (map (λ e. e.0) (g.E.End.planned l.end).base ++ lines_keys (g.E.End.entered l.end) (range_with_len l.first l.i)) (g.E.End.left l.end) l.records
