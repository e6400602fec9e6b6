use Rattle.std.proofs.Common.{◌≡◌, ℕ, ◌+◌, ◌-◌, ◌*◌, ◌<◌, ◌≤◌, ◌||◌, false, length, get_or, set, replicate, rules, sym, subst, ◌∙◌, ap, arith, length-set}
use Rattle.std.proofs.lemmas.List.{length-replicate}
use Rattle.speculate.specs.Trees.{joined, node_at}
use Rattle.speculate.proofs.Clear.{clear_joined}
use Rattle.speculate.proofs.Trees.{made_from, power_some}
use Rattle.speculate.proofs.line_set.LineSet.new.Goals.{then-all, else-all, then-is_set, else-is_set}
use Rattle.speculate.proofs.line_set.LineSet.new.Goals as goal

pub loop-node-init : goal.loop-node-init
loop-node-init c =
    let width = c.next_power_of_two-width.result in
    let flags : c.in_ok-flags.flags.items ≡ replicate c.args.len c.args.all = search rules in
    let nodes : c.in_ok-nodes.nodes.items ≡ replicate width false = search rules in
    let wide : length c.in_ok-nodes.nodes.items ≡ width = ap length nodes ∙ length-replicate width false in
    let some = power_some width c.next_power_of_two-width.ensures.power in
    elim c.if-all.branch [
      | then-all w ↦ record {
        within = omega (arith, w.node-is, wide);
        all = wide;
        some = omega (arith, w.node-is, some);
        same = flags;
        each = λ i from lt. absurd (omega (arith, from, lt, wide, w.node-is));
      }
      | else-all w ↦ record {
        within = omega (arith, w.node-is, wide, some);
        all = wide;
        some = omega (arith, w.node-is);
        same = flags;
        each = λ i from lt. rw (flags, nodes, w.if-all.false) (clear_joined c.args.len width i);
      }
    ]

pub loop-node-preserved : goal.loop-node-preserved
loop-node-preserved c =
    let l = c.loop-node in
    let n = l.node - 1 in
    let flags = c.in_ok-flags.flags.items in
    let nodes = l.nodes.items in
    let left : c.is_set.result ≡ node_at flags nodes (2 * n) = search rules in
    let value = c.if-is_set.value in
    let e : value ≡ joined flags nodes n = elim c.if-is_set.branch [
      | then-is_set w ↦ w.value-is ∙ w.if-is_set.true ∙ sym (ap (λ b. b || node_at flags nodes (2 * n + 1)) (sym left ∙ w.if-is_set.true))
      | else-is_set w ↦
          (let right : w.is_set-else-is_set.result ≡ node_at flags nodes (2 * n + 1) = search rules in
          w.value-is ∙ right ∙ sym (ap (λ b. b || node_at flags nodes (2 * n + 1)) (sym left ∙ w.if-is_set.false)))
    ] in
    let same = length-set nodes n value in
    record {
      within = omega (arith, l.invariant.within, same);
      all = same ∙ l.invariant.all;
      some = omega (arith, c.loop-node-test.true);
      same = l.invariant.same;
      each = subst (λ v. (i : ℕ) → n ≤ i → i < length (set nodes n v) → get_or (set nodes n v) i false ≡ joined flags (set nodes n v) i) (sym e)
          (λ i le lt. made_from flags nodes n (omega (arith, c.loop-node-test.true)) (omega (arith, l.invariant.within, c.loop-node-test.true))
          (λ i g h. l.invariant.each i (omega (arith, g)) h) i le (omega (arith, lt, length-set nodes n (joined flags nodes n))));
    }
