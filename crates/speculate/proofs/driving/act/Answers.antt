use Rattle.std.proofs.Common.{subst}
use Rattle.read_set.specs.Settling.{Contents}
use Rattle.board_steps.specs.Board.{Board}
use Rattle.board_steps.specs.Steps.Call.{Publish}
use Rattle.board_lines.specs.Notes.{contents_at}
use Rattle.board_lines.specs.Replies.{Answers}
use Rattle.speculate.proofs.Phases.{last_act}
use Rattle.speculate.proofs.driving.act.Goals as goal

pub returns-in-Some : goal.returns-in-Some
returns-in-Some g c =
    let b = c.args.board.now in
    let h = c.in-Some.ensures in
    subst (λ (v : Contents). Answers g.J.PlanName.plan b (Publish 0 v) c.in-Some.reply c.publish_more.new.self)
    (last_act g.J.PlanName.plan b c.args.line (contents_at c.args.place) c.requires h.0 h.1) h.3

pub returns-in-None : goal.returns-in-None
returns-in-None g c =
    subst (λ (b : Board). Answers g.J.PlanName.plan b (Publish 0 (contents_at c.args.place)) c.publish.result c.publish.new.self) c.in-None.ensures.1 c.publish.ensures
