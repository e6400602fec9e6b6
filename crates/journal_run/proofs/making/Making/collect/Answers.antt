use Rattle.std.proofs.Common.{arith}
use Rattle.journal_run.proofs.Steps.{collects-both, collects-none, none-begins}
use Rattle.journal_run.proofs.making.Making.collect.Goals as goal

pub loop-turn-init : goal.loop-turn-init
loop-turn-init c = record { collects = collects-none c.args.self.now; closed = λ all. all; left = omega arith }

pub loop-turn-preserved : goal.loop-turn-preserved
loop-turn-preserved c =
    let took = c.in_ok-collect_first.ensures.taken c.if-not-branch.false in
    let left = c.loop-turn.invariant.left in
    record {
      collects = collects-both c.args.self.now c.loop-turn.self c.collect_first.new.self c.loop-turn.invariant.collects c.in_ok-collect_first.ensures.keeps;
      closed = λ all. c.in_ok-collect_first.ensures.closed (c.loop-turn.invariant.closed all);
      left = omega arith;
    }

pub returns-then-not-branch-clause-keeps : goal.returns-then-not-branch-clause-keeps
returns-then-not-branch-clause-keeps c = collects-both c.args.self.now c.loop-turn.self c.collect_first.new.self c.loop-turn.invariant.collects c.in_ok-collect_first.ensures.keeps

pub returns-after-loop-turn-clause-begins : goal.returns-after-loop-turn-clause-begins
returns-after-loop-turn-clause-begins c =
    let left = c.loop-turn.invariant.left in
    none-begins c.loop-turn.self.pairing.pending (omega arith)
