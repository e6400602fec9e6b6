use Rattle.std.proofs.Common.{subst}
use Rattle.board_steps.specs.Board.{Board}
use Rattle.board_steps.specs.Steps.{PublishStep}
use Rattle.board_steps.specs.Steps.Call.{Publish}
use Rattle.board_steps.specs.Steps.Reply.{Idle}
use Rattle.board_lines.specs.Notes.{contents_at}
use Rattle.board_lines.specs.Replies.{Answers}
use Rattle.speculate.proofs.Readying.{is_position, follows_at}
use Rattle.speculate.proofs.Calling.{hand_line, publish_idle, follow_ready}
use Rattle.speculate.proofs.board.Board.publish.Goals as goal

pub follow-requires : goal.follow-requires
follow-requires g c =
    is_position g.J.PlanName.plan c.plan-plan.result.now c.self.inside.lines c.position_of.result c.in-Some.hand.line c.position_of.ensures c.plan-plan.ensures.plan c.plan-plan.ensures.reached
    c.self.inside.ready c.self.invariant (hand_line c.self.inside.lines c.args.worker c.in-Some.hand c.in-Some.ensures)

pub invariant_of-self : goal.invariant_of-self
invariant_of-self g c =
    follow_ready g.J.PlanName.plan c.self.inside.lines c.publish-reply.new.self c.args.worker (contents_at c.args.place) c.in-Some.hand c.self.inside.ready c.follow.new.self c.publish-reply.result
    c.plan-plan.ensures.reached c.in-Some.ensures c.publish-reply.ensures c.self.invariant
    (follows_at g.J.PlanName.plan c.plan-plan.result.now c.self.inside.lines c.position_of.result c.in-Some.hand.line c.position_of.ensures c.plan-plan.ensures.plan c.plan-plan.ensures.reached
    c.self.inside.ready c.follow.new.self c.publish-reply.result c.follow.ensures)

pub returns : goal.returns
returns g c = subst (λ (b : Board). Answers g.J.PlanName.plan b (Publish c.args.worker (contents_at c.args.place)) c.publish-reply.result c.publish-reply.new.self) c.self.view_is c.publish-reply.ensures

pub returns-in_default : goal.returns-in_default
returns-in_default g c =
    subst (λ (b : Board). PublishStep b c.args.worker (contents_at c.args.place) Idle b) c.self.view_is (publish_idle c.self.inside.lines c.args.worker (contents_at c.args.place) c.in_default.ensures)
