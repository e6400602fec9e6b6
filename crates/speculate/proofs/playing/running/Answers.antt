use Rattle.std.proofs.Common.{None, Some, inl, subst}
use Rattle.board_steps.specs.Board.{Board}
use Rattle.board_lines.specs.Acts.{IsToPublish}
use Rattle.board_lines.specs.Notes.{contents_at}
use Rattle.speculate.proofs.Plays.{other_rests, placing_rests, runs_there}
use Rattle.speculate.proofs.playing.running.Goals as goal

pub returns-in_default : goal.returns-in_default
returns-in_default g c = inl c.in_default.ensures

pub returns-in_default-placing : goal.returns-in_default-placing
returns-in_default-placing g c =
    placing_rests g.J.PlanName.plan c.args.board.now c.args.worker c.in-Some.hand (contents_at c.in_default-placing.field-0) c.plan-plan.ensures.reached c.in-Some.ensures c.in_default-placing.ensures

pub returns-in_default-to_publish : goal.returns-in_default-to_publish
returns-in_default-to_publish g c =
    other_rests c.args.board.now c.args.worker c.in-Some.hand c.in-Some.ensures
    (subst (λ (b : Board). IsToPublish b c.args.worker None) c.board.view_is c.in_default-to_publish.ensures)

pub returns : goal.returns
returns g c =
    runs_there c.args.board.now c.args.worker c.in-Some.hand c.in-Some-to_publish.field-0 c.in-Some.ensures c.in-None.ensures
    (subst (λ (b : Board). IsToPublish b c.args.worker (Some c.in-Some-to_publish.field-0)) c.board.view_is c.in-Some-to_publish.ensures)
