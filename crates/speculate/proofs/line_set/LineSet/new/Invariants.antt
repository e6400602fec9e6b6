use Rattle.std.proofs.Common.{◌≡◌, ℕ, ◌≤◌, ◌<◌, length, get_or, false, replicate}
use Rattle.speculate.specs.Trees.{joined}
use Rattle.speculate.proofs.line_set.LineSet.new.Given as goal

-- the nodes from this one on are what those below them make of them
abbrev pub invariant-loop-node : goal.invariant-loop-node
invariant-loop-node l = record {
  within : l.node ≤ length l.nodes.items;
  all : length l.nodes.items ≡ l.width;
  some : 1 ≤ l.node;
  same : l.flags.items ≡ replicate l.len l.all;
  each : (i : ℕ) → l.node ≤ i → i < length l.nodes.items → get_or l.nodes.items i false ≡ joined l.flags.items l.nodes.items i;
}

abbrev pub decreases-loop-node : goal.decreases-loop-node
decreases-loop-node l = l.node
