use Rattle.std.proofs.Common.{length, refl, ap, arith}
use Rattle.read_set.specs.Plans.{Planned}
use Rattle.speculate.proofs.Finishes.{all_if, whole_if}
use Rattle.speculate.proofs.board.Board.finish.Goals as goal

pub invariant_of-result : goal.invariant_of-result
invariant_of-result g c =
    let lines = ap (λ (p : Planned). length p.readings) c.plan-plan.ensures.plan in
    whole_if g.J.PlanName.plan c.args.self c.plan-plan.ensures.reached (omega (arith, lines, c.lines_of.ensures.lines, c.if-committed-lines_of.false, c.committed-committed.ensures))

pub returns-clause-finished : goal.returns-clause-finished
returns-clause-finished g c = (refl, invariant_of-result g c)

pub returns-then-committed-lines_of-clause-all : goal.returns-then-committed-lines_of-clause-all
returns-then-committed-lines_of-clause-all g c = λ whole.
    let lines = ap (λ (p : Planned). length p.readings) c.plan-plan.ensures.plan in
    let all = all_if g.J.PlanName.plan c.args.self c.plan-plan.ensures.reached whole in
    absurd (omega (arith, lines, all, c.lines_of.ensures.lines, c.if-committed-lines_of.true, c.committed-committed.ensures))
