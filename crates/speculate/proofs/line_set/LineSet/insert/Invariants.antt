use Rattle.std.proofs.Common.{◌≡◌, ◌<◌, ◌≤◌, length, true}
use Rattle.speculate.specs.Trees.{AllBut, joined}
use Rattle.speculate.proofs.line_set.LineSet.insert.Given as goal

-- each node but the next is what those below it make of it, and below the next there is a set flag
abbrev pub invariant-loop-node : goal.invariant-loop-node
invariant-loop-node l = record {
  flags : l.self-inside.flags ≡ l.initial.self-inside.flags;
  apart : l.self-inside.apart ≡ l.initial.self-inside.apart;
  as_many : length l.self-inside.nodes.items ≡ length l.initial.self-inside.nodes.items;
  within : l.node < length l.self-inside.nodes.items;
  each : AllBut l.self-inside.flags.items l.self-inside.nodes.items l.node;
  set : 1 ≤ l.node → joined l.self-inside.flags.items l.self-inside.nodes.items l.node ≡ true;
}

abbrev pub decreases-loop-node : goal.decreases-loop-node
decreases-loop-node l = l.node
