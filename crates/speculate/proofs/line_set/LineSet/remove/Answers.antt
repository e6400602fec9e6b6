use Rattle.std.proofs.Common.{◌≡◌, ◌+◌, ◌*◌, ◌≤◌, ◌||◌, Bool, false, length-set, rules, sym, ap₂, ◌∙◌, arith}
use Rattle.speculate.specs.Trees.{joined, node_at}
use Rattle.speculate.proofs.Apart.{taken_apart, taken_beside}
use Rattle.speculate.proofs.Trees.{lowered, set_still}
use Rattle.speculate.proofs.line_set.LineSet.remove.Goals as goal

pub returns-then-eq : goal.returns-then-eq
returns-then-eq c = rw (← c.self.view_is) (taken_apart c.self.inside.flags.items c.self.inside.apart c.args.position (sym c.eq.ensures ∙ c.if-eq.true) c.self.invariant.1)

pub loop-node-preserved : goal.loop-node-preserved
loop-node-preserved c =
    let l = c.loop-node in
    let flags = l.self-inside.flags.items in
    let nodes = l.self-inside.nodes.items in
    let some : 1 ≤ l.node = omega (arith, c.loop-node-test.true) in
    let left : node_at flags nodes (2 * l.node) ≡ false = search rules in
    let right : node_at flags nodes (2 * l.node + 1) ≡ false = search rules in
    let none : joined flags nodes l.node ≡ false = ap₂ (λ (a b : Bool). a || b) left right in
    record {
      flags = l.invariant.flags;
      apart = l.invariant.apart;
      as_many = length-set nodes l.node false ∙ l.invariant.as_many;
      within = omega (arith, l.invariant.within, length-set nodes l.node false);
      each = lowered flags nodes l.node some l.invariant.within l.invariant.each none;
      set = set_still flags nodes l.node some l.invariant.within l.invariant.each (l.invariant.set some);
    }

pub returns-else-not-is_set-2 : goal.returns-else-not-is_set-2
returns-else-not-is_set-2 c =
    rw (← c.self.view_is, c.loop-node.invariant.flags, c.loop-node.invariant.apart)
    (taken_beside c.self.inside.flags.items c.self.inside.apart c.args.position (sym c.eq.ensures ∙ c.if-eq.false))

pub returns-else-not-is_set : goal.returns-else-not-is_set
returns-else-not-is_set c =
    rw (← c.self.view_is, c.loop-node.invariant.flags, c.loop-node.invariant.apart)
    (taken_beside c.self.inside.flags.items c.self.inside.apart c.args.position (sym c.eq.ensures ∙ c.if-eq.false))

pub returns-after-loop-node : goal.returns-after-loop-node
returns-after-loop-node c =
    rw (← c.self.view_is, c.loop-node.invariant.flags, c.loop-node.invariant.apart)
    (taken_beside c.self.inside.flags.items c.self.inside.apart c.args.position (sym c.eq.ensures ∙ c.if-eq.false))
