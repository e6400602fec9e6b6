use Rattle.std.proofs.Common.{◌-◌, length}
use Rattle.speculate.specs.Devices.Rows.{IsNext}
use Rattle.speculate.proofs.line_set.least_below.Given as goal

abbrev pub invariant-loop-node : goal.invariant-loop-node
invariant-loop-node l = IsNext l.flags l.nodes l.from l.node

abbrev pub decreases-loop-node : goal.decreases-loop-node
decreases-loop-node l = length l.nodes - l.node
