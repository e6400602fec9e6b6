use Rattle.std.proofs.Common.{◌∙◌, ap}
use Rattle.board_steps.specs.Board.{Board, row_at}
use Rattle.board_lines.specs.Committed.{committed_answer}
use Rattle.speculate.proofs.Finishes.{whole_answer}
use Rattle.speculate.proofs.end.FinishedEnd.answer.Goals as goal

pub returns : goal.returns
returns g c =
    c.answer.ensures
    ∙ ap (λ (b : Board). committed_answer (row_at b c.args.line).state) c.board.view_is
    ∙ whole_answer g.J.PlanName.plan c.self.inside.board c.plan-plan.ensures.reached c.self.invariant c.args.line
