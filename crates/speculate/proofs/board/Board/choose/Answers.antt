use Rattle.std.proofs.Common.{◌≡◌, ◌+◌, ◌<◌, length, ap, sym, subst, ◌∙◌, arith, true, false, Some, None}
use Rattle.read_set.specs.Plans.{Planned}
use Rattle.board_steps.specs.Board.{Board}
use Rattle.board_steps.specs.Choice.{IsChoice}
use Rattle.board_steps.specs.Choice.Choice.{ToCommit, ToCheck, ToTake, ToWait}
use Rattle.speculate.specs.Trees.{IsLeastFrom}
use Rattle.speculate.specs.Marks.{has_position}
use Rattle.speculate.proofs.Choosing.{commits, checks, takes, waits_for_others}
use Rattle.speculate.proofs.board.Board.choose.Goals as goal

pub returns-then-has : goal.returns-then-has
returns-then-has g c =
    let b = c.self.inside.lines in
    let r = c.self.inside.ready in
    let line : b.first + b.committed ≡ c.first.result + c.counts-counts.result.commits =
    omega (arith, c.first.ensures, ap (λ (x : Planned). x.first) c.plan-plan.ensures.plan, c.plan-plan.ensures.reached.first, c.counts-counts.ensures.commits) in
    let has : has_position r.checked b.committed ≡ true = ap (has_position r.checked) (sym c.counts-counts.ensures.commits) ∙ sym c.has.ensures ∙ c.if-has.true in
    subst (λ (x : Board). IsChoice x (ToCommit (c.first.result + c.counts-counts.result.commits))) c.self.view_is
    (subst (λ n. IsChoice b (ToCommit n)) line (commits g.J.PlanName.plan b r c.plan-plan.ensures.reached c.self.invariant has))

pub returns-in-Some : goal.returns-in-Some
returns-in-Some g c =
    let b = c.self.inside.lines in
    let r = c.self.inside.ready in
    let line : b.first + c.in-Some.position ≡ c.first-in-Some.result + c.in-Some.position =
    omega (arith, c.first-in-Some.ensures, ap (λ (x : Planned). x.first) c.plan-plan.ensures.plan, c.plan-plan.ensures.reached.first) in
    let none : has_position r.checked b.committed ≡ false = ap (has_position r.checked) (sym c.counts-counts.ensures.commits) ∙ sym c.has.ensures ∙ c.if-has.false in
    subst (λ (x : Board). IsChoice x (ToCheck (c.first-in-Some.result + c.in-Some.position))) c.self.view_is
    (subst (λ n. IsChoice b (ToCheck n)) line (checks g.J.PlanName.plan b r c.plan-plan.ensures.reached c.self.invariant c.in-Some.position none (subst (λ n. IsLeastFrom r.unchecked n (Some c.in-Some.position)) c.counts-counts.ensures.commits c.in-Some.ensures)))

pub returns-in-Some-least_from : goal.returns-in-Some-least_from
returns-in-Some-least_from g c =
    let b = c.self.inside.lines in
    let r = c.self.inside.ready in
    let p = c.in-Some-least_from.position in
    let line : b.first + p ≡ c.first-in-Some-least_from.result + p =
    omega (arith, c.first-in-Some-least_from.ensures, ap (λ (x : Planned). x.first) c.plan-plan.ensures.plan, c.plan-plan.ensures.reached.first) in
    let none : has_position r.checked b.committed ≡ false = ap (has_position r.checked) (sym c.counts-counts.ensures.commits) ∙ sym c.has.ensures ∙ c.if-has.false in
    subst (λ (x : Board). IsChoice x (ToTake (c.first-in-Some-least_from.result + p))) c.self.view_is
    (subst (λ n. IsChoice b (ToTake n)) line
    (takes g.J.PlanName.plan b r c.plan-plan.ensures.reached c.self.invariant p none (subst (λ n. IsLeastFrom r.unchecked n None) c.counts-counts.ensures.commits c.in_default.ensures)
    (subst (λ n. IsLeastFrom r.waiting n (Some p)) c.counts-counts.ensures.commits c.in-Some-least_from.ensures)))

pub returns : goal.returns
returns g c =
    let b = c.self.inside.lines in
    let r = c.self.inside.ready in
    let none : has_position r.checked b.committed ≡ false = ap (has_position r.checked) (sym c.counts-counts.ensures.commits) ∙ sym c.has.ensures ∙ c.if-has.false in
    let more : b.committed < length g.J.PlanName.plan.readings =
    omega (arith, c.if-committed-lines_of.false, c.lines_of.ensures.lines, ap (λ (x : Planned). length x.readings) c.plan-plan.ensures.plan, c.counts-counts.ensures.commits) in
    subst (λ (x : Board). IsChoice x ToWait) c.self.view_is
    (waits_for_others g.J.PlanName.plan b r c.plan-plan.ensures.reached c.self.invariant more none
    (subst (λ n. IsLeastFrom r.unchecked n None) c.counts-counts.ensures.commits c.in_default.ensures)
    (subst (λ n. IsLeastFrom r.waiting n None) c.counts-counts.ensures.commits c.in_default-least_from.ensures))
