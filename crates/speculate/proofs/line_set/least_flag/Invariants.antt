use Rattle.std.proofs.Common.{◌+◌, ◌*◌, ◌-◌, ◌≤◌, length}
use Rattle.speculate.specs.Devices.Rows.{IsInRow, NoneSet}
use Rattle.speculate.proofs.line_set.least_flag.Given as goal

-- no flag is set before those below the node
abbrev pub invariant-loop-node : goal.invariant-loop-node
invariant-loop-node l = record {
  in_row : IsInRow l.nodes l.node l.width l.first;
  past : length l.nodes + l.from ≤ l.first;
  before : NoneSet l.flags l.nodes (length l.nodes + l.from) l.first;
}

abbrev pub decreases-loop-node : goal.decreases-loop-node
decreases-loop-node l = 2 * length l.nodes - l.first
