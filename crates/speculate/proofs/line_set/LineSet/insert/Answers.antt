use Rattle.std.proofs.Common.{◌∙◌, arith, length-set, true}
use Rattle.speculate.proofs.Apart.{put_beside}
use Rattle.speculate.proofs.Trees.{raised, raised_below}
use Rattle.speculate.proofs.line_set.LineSet.insert.Goals as goal

pub loop-node-preserved : goal.loop-node-preserved
loop-node-preserved c =
    let l = c.loop-node in
    let flags = l.self-inside.flags.items in
    let nodes = l.self-inside.nodes.items in
    let some = c.loop-node-test.true in
    record {
      flags = l.invariant.flags;
      apart = l.invariant.apart;
      as_many = length-set nodes l.node true ∙ l.invariant.as_many;
      within = omega (arith, l.invariant.within, length-set nodes l.node true);
      each = raised flags nodes l.node (omega (arith, some)) l.invariant.within l.invariant.each (l.invariant.set (omega (arith, some)));
      set = λ _. raised_below flags nodes l.node l.invariant.within;
    }

pub returns-else-not-index : goal.returns-else-not-index
returns-else-not-index c =
    rw (← c.self.view_is, c.loop-node.invariant.flags, c.loop-node.invariant.apart) (put_beside c.self.inside.flags.items c.self.inside.apart c.args.position)

pub returns-after-loop-node : goal.returns-after-loop-node
returns-after-loop-node c =
    rw (← c.self.view_is, c.loop-node.invariant.flags, c.loop-node.invariant.apart) (put_beside c.self.inside.flags.items c.self.inside.apart c.args.position)
