use Rattle.std.proofs.Common.{List, ◌++◌, ◌-◌, length, map, take}
use Rattle.circ_records.specs.declared.key.Key.{Key}
use Rattle.result_report.specs.Ends.{HasAt, keys_named}
use Rattle.result_report.proofs.ends.take_entries.Given as goal

abbrev pub invariant-loop-entry : goal.invariant-loop-entry
invariant-loop-entry g l =
    (more : List Key) → HasAt (map (λ e. e.0) (g.E.End.planned l.end).base ++ more) (g.E.End.left l.end) l.fn.records
    → HasAt ((map (λ e. e.0) (g.E.End.planned l.end).base ++ more)
    ++ keys_named (take l.i (g.E.End.entered l.end l.line))) (g.E.End.left l.end) l.records

abbrev pub decreases-loop-entry : goal.decreases-loop-entry
decreases-loop-entry g l = length (g.E.End.entered l.end l.line) - l.i
