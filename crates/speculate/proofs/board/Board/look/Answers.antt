use Rattle.std.proofs.Common.{subst}
use Rattle.board_steps.specs.Board.{Board}
use Rattle.board_steps.specs.Steps.{LookStep}
use Rattle.board_steps.specs.Steps.Call.{Look}
use Rattle.board_steps.specs.Steps.Reply.{Idle, Stopped}
use Rattle.board_lines.specs.Replies.{Answers}
use Rattle.speculate.specs.declared.ready.Mark.TheVariants as marks
use Rattle.speculate.proofs.Readying.{is_position, puts_at}
use Rattle.speculate.proofs.Calling.{hand_line, stop_ready, look_idle, look_other}
use Rattle.speculate.proofs.board.Board.look.Goals as goal

pub put-requires : goal.put-requires
put-requires g c =
    is_position g.J.PlanName.plan c.plan-plan.result.now c.self.inside.lines c.position_of.result c.in-Some.hand.line c.position_of.ensures c.plan-plan.ensures.plan c.plan-plan.ensures.reached
    c.self.inside.ready c.self.invariant (hand_line c.self.inside.lines c.args.worker c.in-Some.hand c.in-Some.ensures)

pub invariant_of-self : goal.invariant_of-self
invariant_of-self g c =
    stop_ready g.J.PlanName.plan c.self.inside.lines c.look.new.self c.args.worker c.in-Suspect.line c.args.key.now c.in-Some.hand c.self.inside.ready c.put.new.self
    c.plan-plan.ensures.reached c.in-Some.ensures c.in-Suspect.ensures c.self.invariant
    (puts_at g.J.PlanName.plan c.plan-plan.result.now c.self.inside.lines c.position_of.result c.in-Some.hand.line c.position_of.ensures c.plan-plan.ensures.plan c.plan-plan.ensures.reached
    c.self.inside.ready c.put.new.self marks.Waiting c.put.ensures)

pub invariant_of-self-in_default-look : goal.invariant_of-self-in_default-look
invariant_of-self-in_default-look g c =
    look_other g.J.PlanName.plan c.self.inside.lines c.look.new.self c.args.worker c.args.key.now c.self.inside.ready c.look.result c.in_default-look.not-Suspect c.look.ensures c.self.invariant

pub returns-in_default : goal.returns-in_default
returns-in_default g c = subst (λ (b : Board). LookStep g.J.PlanName.plan b c.args.worker c.args.key.now Idle b) c.self.view_is (look_idle g.J.PlanName.plan c.self.inside.lines c.args.worker c.args.key.now c.in_default.ensures)

pub returns-in-Suspect : goal.returns-in-Suspect
returns-in-Suspect g c = subst (λ (b : Board). LookStep g.J.PlanName.plan b c.args.worker c.args.key.now (Stopped c.in-Suspect.line) c.look.new.self) c.self.view_is c.in-Suspect.ensures

pub returns-in_default-look : goal.returns-in_default-look
returns-in_default-look g c = subst (λ (b : Board). Answers g.J.PlanName.plan b (Look c.args.worker c.args.key.now) c.look.result c.look.new.self) c.self.view_is c.look.ensures
