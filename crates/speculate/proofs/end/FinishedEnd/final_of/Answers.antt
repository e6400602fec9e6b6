use Rattle.std.proofs.Common.{◌∙◌, ◌+◌, ap, length}
use Rattle.board_steps.specs.Board.{Board, row_at, value_at}
use Rattle.board_steps.proofs.Histories.{last_committed}
use Rattle.speculate.proofs.end.FinishedEnd.final_of.Goals as goal

pub returns : goal.returns
returns g c =
    let plan = g.J.PlanName.plan in
    c.value_of.ensures
    ∙ ap (λ (b : Board). value_at plan (row_at b) (b.first + length b.rows) c.args.key.now) c.board.view_is
    ∙ last_committed plan c.self.inside.board c.plan-plan.ensures.reached c.self.invariant c.args.key.now
