use Rattle.std.proofs.Common.{◌≡◌, ◌<◌, length}
use Rattle.speculate.specs.Devices.Rows.{IsSet}
use Rattle.speculate.specs.Trees.{AllBut}
use Rattle.speculate.proofs.line_set.LineSet.remove.Given as goal

-- each node but the next is what those below it make of it, and the next is set
abbrev pub invariant-loop-node : goal.invariant-loop-node
invariant-loop-node l = record {
  flags : l.self-inside.flags ≡ l.initial.self-inside.flags;
  apart : l.self-inside.apart ≡ l.initial.self-inside.apart;
  as_many : length l.self-inside.nodes.items ≡ length l.initial.self-inside.nodes.items;
  within : l.node < length l.self-inside.nodes.items;
  each : AllBut l.self-inside.flags.items l.self-inside.nodes.items l.node;
  set : IsSet l.self-inside.nodes.items l.node;
}

abbrev pub decreases-loop-node : goal.decreases-loop-node
decreases-loop-node l = l.node
