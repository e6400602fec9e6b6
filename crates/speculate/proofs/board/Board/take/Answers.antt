use Rattle.std.proofs.Common.{subst}
use Rattle.board_steps.specs.Board.{Board}
use Rattle.board_steps.specs.Steps.{TakeStep}
use Rattle.board_steps.specs.Steps.Call.{Take}
use Rattle.board_steps.specs.Steps.Reply.{Taken}
use Rattle.board_lines.specs.Replies.{Answers}
use Rattle.speculate.specs.declared.ready.Mark.TheVariants as marks
use Rattle.speculate.proofs.Readying.{is_position, puts_at}
use Rattle.speculate.proofs.Calling.{take_ready, take_other}
use Rattle.speculate.proofs.board.Board.take.Goals as goal

pub put-requires : goal.put-requires
put-requires g c =
    is_position g.J.PlanName.plan c.plan-plan.result.now c.self.inside.lines c.position_of.result c.args.line c.position_of.ensures c.plan-plan.ensures.plan c.plan-plan.ensures.reached
    c.self.inside.ready c.self.invariant c.in-Taken.ensures.0.within

pub invariant_of-self : goal.invariant_of-self
invariant_of-self g c =
    take_ready c.self.inside.lines c.take.new.self c.args.worker c.args.line c.in-Taken.attempt c.self.inside.ready c.put.new.self c.in-Taken.ensures c.self.invariant
    (puts_at g.J.PlanName.plan c.plan-plan.result.now c.self.inside.lines c.position_of.result c.args.line c.position_of.ensures c.plan-plan.ensures.plan c.plan-plan.ensures.reached
    c.self.inside.ready c.put.new.self marks.Nowhere c.put.ensures)

pub invariant_of-self-in_default : goal.invariant_of-self-in_default
invariant_of-self-in_default g c =
    take_other g.J.PlanName.plan c.self.inside.lines c.take.new.self c.args.worker c.args.line c.self.inside.ready c.take.result c.in_default.not-Taken c.take.ensures c.self.invariant

pub returns-in-Taken : goal.returns-in-Taken
returns-in-Taken g c = subst (λ (b : Board). TakeStep b c.args.worker c.args.line (Taken c.in-Taken.attempt) c.take.new.self) c.self.view_is c.in-Taken.ensures

pub returns-in_default : goal.returns-in_default
returns-in_default g c = subst (λ (b : Board). Answers g.J.PlanName.plan b (Take c.args.worker c.args.line) c.take.result c.take.new.self) c.self.view_is c.take.ensures
