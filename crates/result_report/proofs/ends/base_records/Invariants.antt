use Rattle.std.proofs.Common.{map, take}
use Rattle.result_report.specs.Ends.{HasAt}
use Rattle.result_report.proofs.ends.base_records.Given as goal

-- the records at the keys so far
abbrev pub invariant-loop-entry : goal.invariant-loop-entry
invariant-loop-entry g l = HasAt (map (λ e. e.0) (take l.entry-index l.keys)) (g.E.End.left l.end) l.records
