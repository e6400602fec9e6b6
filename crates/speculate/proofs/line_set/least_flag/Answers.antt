use Rattle.std.proofs.Common.{◌≡◌, ◌+◌, false, length, sym, ◌∙◌, arith}
use Rattle.speculate.specs.Trees.{node_at}
use Rattle.speculate.proofs.Trees.{next_first, next_within, next_none, next_in_row, next_up, none_at_all, none_past, wide_some, below_past}
use Rattle.speculate.proofs.line_set.least_flag.Goals as goal

pub returns-then-not-is_set : goal.returns-then-not-is_set
returns-then-not-is_set c p from =
    let bare : node_at c.args.flags.now c.args.nodes.now 1 ≡ false = sym c.is_set.ensures ∙ c.if-not-is_set.true in
    none_at_all c.args.flags.now c.args.nodes.now c.requires bare p

pub overflow_add-node-in-loop-node : goal.overflow_add-node-in-loop-node
overflow_add-node-in-loop-node c =
    let l = c.loop-node in
    let n = next_within c.args.flags.now c.args.nodes.now l.node l.width l.first c.requires l.invariant.in_row in
    let f = next_first c.args.flags.now c.args.nodes.now l.node l.width l.first c.requires l.invariant.in_row in
    let b = below_past (l.node + 1) l.invariant.in_row.rows in
    search (arith, n, f, b, c.requires.few)

pub overflow_add-first : goal.overflow_add-first
overflow_add-first c =
    let l = c.loop-node in
    let n = next_within c.args.flags.now c.args.nodes.now l.node l.width l.first c.requires l.invariant.in_row in
    search (arith, n, c.requires.few)

pub returns-then-first-nodes : goal.returns-then-first-nodes
returns-then-first-nodes c p from =
    let l = c.loop-node in
    let nodes = c.args.nodes.now in
    let bare : node_at c.args.flags.now nodes l.node ≡ false = sym c.is_set-in-loop-node.ensures ∙ c.loop-node-test.true in
    none_past c.args.flags.now nodes c.args.from (l.first + l.width) (omega arith) c.requires
    (next_none c.args.flags.now nodes l.node l.width l.first c.requires l.invariant.in_row (length nodes + c.args.from) bare l.invariant.before) p from

pub overflow_mul-width : goal.overflow_mul-width
overflow_mul-width c =
    let l = c.loop-node in
    let n = next_within c.args.flags.now c.args.nodes.now l.node l.width l.first c.requires l.invariant.in_row in
    search (arith, n, c.requires.few)

pub loop-node-smaller-then-node-eq0 : goal.loop-node-smaller-then-node-eq0
loop-node-smaller-then-node-eq0 c =
    let l = c.loop-node in
    let n = next_within c.args.flags.now c.args.nodes.now l.node l.width l.first c.requires l.invariant.in_row in
    let w = wide_some c.args.nodes.now l.node l.width l.first l.invariant.in_row in
    omega (arith, n, w)

pub loop-node-preserved-then-node-eq0 : goal.loop-node-preserved-then-node-eq0
loop-node-preserved-then-node-eq0 c =
    let l = c.loop-node in
    let flags = c.args.flags.now in
    let nodes = c.args.nodes.now in
    let bare : node_at flags nodes l.node ≡ false = sym c.is_set-in-loop-node.ensures ∙ c.loop-node-test.true in
    record {
      in_row = next_up flags nodes l.node l.width l.first c.requires l.invariant.in_row c.if-first-nodes.false c.if-node-eq0.true;
      past = omega (arith, l.invariant.past);
      before = next_none flags nodes l.node l.width l.first c.requires l.invariant.in_row (length nodes + c.args.from) bare l.invariant.before;
    }

pub loop-node-smaller : goal.loop-node-smaller
loop-node-smaller c =
    let l = c.loop-node in
    let n = next_within c.args.flags.now c.args.nodes.now l.node l.width l.first c.requires l.invariant.in_row in
    let w = wide_some c.args.nodes.now l.node l.width l.first l.invariant.in_row in
    omega (arith, n, w)

pub loop-node-preserved : goal.loop-node-preserved
loop-node-preserved c =
    let l = c.loop-node in
    let flags = c.args.flags.now in
    let nodes = c.args.nodes.now in
    let bare : node_at flags nodes l.node ≡ false = sym c.is_set-in-loop-node.ensures ∙ c.loop-node-test.true in
    record {
      in_row = next_in_row flags nodes l.node l.width l.first c.requires l.invariant.in_row c.if-first-nodes.false;
      past = omega (arith, l.invariant.past);
      before = next_none flags nodes l.node l.width l.first c.requires l.invariant.in_row (length nodes + c.args.from) bare l.invariant.before;
    }
