use Rattle.std.proofs.Common.{Some, None, refl, sym, ap, subst, ◌∙◌}
use Rattle.board_steps.specs.Board.{Board, holder}
use Rattle.board_lines.specs.Acts.{IsPlacing}
use Rattle.board_lines.specs.Courses.{PublishesMore}
use Rattle.board_lines.specs.Hands.{HasNoLine}
use Rattle.speculate.specs.Marks.{IsReady}
use Rattle.speculate.proofs.Readying.{is_position, follows_at}
use Rattle.speculate.proofs.Calling.{hand_line, follow_ready}
use Rattle.speculate.proofs.board.Board.publish_more.Goals as goal

pub follow-requires : goal.follow-requires
follow-requires g c =
    is_position g.J.PlanName.plan c.plan-plan.result.now c.self.inside.lines c.position_of.result c.in-Some.hand.line c.position_of.ensures c.plan-plan.ensures.plan c.plan-plan.ensures.reached
    c.self.inside.ready c.self.invariant (hand_line c.self.inside.lines c.args.worker c.in-Some.hand c.in-Some.ensures)

pub invariant_of-self-2 : goal.invariant_of-self-2
invariant_of-self-2 g c =
    let plan = g.J.PlanName.plan in
    let reply = c.in-Some-publish_more.reply in
    let more : PublishesMore plan c.self.inside.lines c.args.worker (Some reply) c.publish_more.new.self = c.in-Some-publish_more.ensures in
    follow_ready plan c.self.inside.lines c.publish_more.new.self c.args.worker more.0 c.in-Some.hand c.self.inside.ready c.follow.new.self reply
    c.plan-plan.ensures.reached c.in-Some.ensures more.3 c.self.invariant
    (follows_at plan c.plan-plan.result.now c.self.inside.lines c.position_of.result c.in-Some.hand.line c.position_of.ensures c.plan-plan.ensures.plan c.plan-plan.ensures.reached
    c.self.inside.ready c.follow.new.self reply c.follow.ensures)

pub returns : goal.returns
returns g c =
    let more : PublishesMore g.J.PlanName.plan c.self.inside.lines c.args.worker (Some c.in-Some-publish_more.reply) c.publish_more.new.self = c.in-Some-publish_more.ensures in
    subst (λ (b : Board). PublishesMore g.J.PlanName.plan b c.args.worker (Some c.in-Some-publish_more.reply) c.publish_more.new.self) c.self.view_is more

pub returns-in_default : goal.returns-in_default
returns-in_default g c =
    let h : HasNoLine c.self.inside.lines c.args.worker = c.in_default.ensures in
    (subst (λ (b : Board). IsPlacing b c.args.worker None) c.self.view_is (λ n notes last e. h n (ap holder e)), refl)

pub invariant_of-self : goal.invariant_of-self
invariant_of-self g c = subst (λ (b : Board). IsReady b c.self.inside.ready) (sym c.in_default-publish_more.ensures.1) c.self.invariant

pub returns-in_default-publish_more : goal.returns-in_default-publish_more
returns-in_default-publish_more g c =
    (subst (λ (b : Board). IsPlacing b c.args.worker None) c.self.view_is c.in_default-publish_more.ensures.0, c.in_default-publish_more.ensures.1 ∙ c.self.view_is)
