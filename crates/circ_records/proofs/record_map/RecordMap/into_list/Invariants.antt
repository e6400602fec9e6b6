use Rattle.std.proofs.Common.{◌≡◌, ◌++◌}
use Rattle.circ_records.proofs.record_map.RecordMap.into_list.Given as goal

-- the list has those so far, and the others are to come
abbrev pub invariant-loop-key : goal.invariant-loop-key
invariant-loop-key l = l.list.entries.items ++ l.key-iterator ≡ l.fn.self
