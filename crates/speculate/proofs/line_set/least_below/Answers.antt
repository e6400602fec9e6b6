use Rattle.std.proofs.Common.{◌≡◌, ◌+◌, ◌*◌, true, false, length, sym, subst, ◌∙◌, arith}
use Rattle.speculate.specs.Trees.{node_at}
use Rattle.speculate.specs.Devices.Rows.{IsNext}
use Rattle.speculate.proofs.Trees.{go_left, go_right, flag_found, power_some, one_of}
use Rattle.speculate.proofs.line_set.least_below.Goals as goal

pub loop-node-preserved-then-not-is_set : goal.loop-node-preserved-then-not-is_set
loop-node-preserved-then-not-is_set c =
    let flags = c.args.flags.now in
    let nodes = c.args.nodes.now in
    let n = c.loop-node.node in
    let twice : n * 2 ≡ 2 * n = omega arith in
    let bare : node_at flags nodes (2 * n) ≡ false = subst (λ x. node_at flags nodes x ≡ false) twice (sym c.is_set.ensures ∙ c.if-not-is_set.true) in
    subst (λ x. IsNext flags nodes c.args.from (x + 1)) (sym twice) (go_right flags nodes c.args.from n c.requires.tree c.loop-node-test.true c.loop-node.invariant bare)

pub loop-node-smaller : goal.loop-node-smaller
loop-node-smaller c =
    let nodes = c.args.nodes.now in
    let some = one_of nodes c.loop-node.node c.loop-node.invariant.rows (power_some (length nodes) c.requires.tree.power) c.loop-node.invariant.above in
    omega (arith, some, c.loop-node-test.true)

pub loop-node-preserved : goal.loop-node-preserved
loop-node-preserved c =
    let flags = c.args.flags.now in
    let nodes = c.args.nodes.now in
    let n = c.loop-node.node in
    let twice : n * 2 ≡ 2 * n = omega arith in
    let set : node_at flags nodes (2 * n) ≡ true = subst (λ x. node_at flags nodes x ≡ true) twice (sym c.is_set.ensures ∙ c.if-not-is_set.false) in
    subst (λ x. IsNext flags nodes c.args.from x) (sym twice) (go_left flags nodes c.args.from n c.loop-node-test.true c.loop-node.invariant set)

pub returns : goal.returns
returns c = flag_found c.args.flags.now c.args.nodes.now c.args.from c.loop-node.node c.requires.tree (omega (arith, c.loop-node-test.false)) c.loop-node.invariant
