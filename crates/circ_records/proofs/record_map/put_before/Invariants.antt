use Rattle.std.proofs.Common.{◌≡◌, ◌++◌, length}
use Rattle.circ_records.proofs.record_map.put_before.Given as goal

-- what is left of the list, and the map after it, are still all of them
abbrev pub invariant-loop-key : goal.invariant-loop-key
invariant-loop-key l = l.left.items ++ l.all.entries ≡ l.fn.list.items ++ l.fn.mapped.entries

abbrev pub decreases-loop-key : goal.decreases-loop-key
decreases-loop-key l = length l.left.items
