use Rattle.std.proofs.Common.{None, Some, sym, subst, inl, inr}
use Rattle.std.specs.Prelude.{OnOk}
use Rattle.board_steps.specs.Board.{Board}
use Rattle.board_steps.specs.Steps.Call.{Publish}
use Rattle.board_lines.specs.Acts.{IsPlacing}
use Rattle.board_lines.specs.Courses.{PublishesMore}
use Rattle.speculate.specs.Playing.{Goes}
use Rattle.speculate.specs.declared.steps.Step.TheVariants as steps
use Rattle.speculate.proofs.Plays.{call_judged, ends, publish_ends}
use Rattle.speculate.proofs.playing.publish.Goals as goal

pub returns-in-Some : goal.returns-in-Some
returns-in-Some g c =
    let plan = g.J.PlanName.plan in
    let b = c.args.board.now in
    let w = c.args.worker in
    let new = c.publish_more.new.self in
    let more : PublishesMore plan b w (Some c.in-Some.reply) new = c.in-Some.ensures in
    ends plan b new (steps.Publish w) c.ended.result
    (publish_ends plan b new w more.0 c.ended.result (λ grows. inr (more.0, more.1, more.2, grows)) (inl more.1) more.2
    (call_judged plan b new (Publish w more.0) c.in-Some.reply c.ended.result more.3 c.ended.ensures))

pub place_of-requires : goal.place_of-requires
place_of-requires g c =
    let b = c.args.board.now in
    let none : PublishesMore {J = g.row.J.Denot} g.J.PlanName.plan b c.args.worker None c.publish_more.new.self = c.in_default.ensures in
    subst (λ (x : Board). IsPlacing x c.args.worker None) (sym none.1) none.0

pub returns-clause-goes : goal.returns-clause-goes
returns-clause-goes g c =
    let none : PublishesMore {J = g.row.J.Denot} g.J.PlanName.plan c.args.board.now c.args.worker None c.publish_more.new.self = c.in_default.ensures in
    subst (λ (b : Board). OnOk c.publish_at.result (Goes g.J.PlanName.plan b (steps.Publish c.args.worker) c.publish_at.new.board)) none.1 c.publish_at.ensures.goes
