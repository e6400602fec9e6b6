use Rattle.std.proofs.Common.{inr, refl}
use Rattle.board_lines.specs.Parts.{row_shown}
use Rattle.board_lines.proofs.Publications.{publish_held}
use Rattle.board_lines.proofs.Rows.{held_there}
use Rattle.board_lines.proofs.Standing.{is_under_way, not_published, runs}
use Rattle.board_lines.proofs.lines.Lines.to_publish.Goals as goal

pub returns-in_default : goal.returns-in_default
returns-in_default g c = λ n notes may. c.in_default.ensures n (publish_held _ c.args.worker notes may)

pub returns-in_default-row : goal.returns-in_default-row
returns-in_default-row g c = absurd (c.in_default-row.ensures (held_there c.args.self.now c.in-Some.hand.line c.args.worker c.in-Some.ensures.0))

pub returns-in-Running : goal.returns-in-Running
returns-in-Running g c =
    let at = c.in-Some-row.ensures in
    (at.there, runs g.J.PlanName.plan c.args.self.now c.in-Some.hand.line c.in-Some-row.state (row_shown c.in-Some-row.field-0-1.now) at c.args.worker c.in-Some.ensures.0 c.in-Running.worker c.in-Running.is, c.in-Some.ensures.1)

pub returns-in_default-state-2 : goal.returns-in_default-state-2
returns-in_default-state-2 g c =
    not_published g.J.PlanName.plan c.args.self.now c.in-Some.hand.line c.in-Some-row.state (row_shown c.in-Some-row.field-0-1.now) c.in-Some-row.ensures c.args.worker c.in-Some.ensures.0 c.in_default-state.not-Running c.in_default-state-2.not-Placing

pub returns : goal.returns
returns g c =
    let at = c.in-Some-row.ensures in
    let row = row_shown c.in-Some-row.field-0-1.now in
    (at.there, inr (row.contents, is_under_way g.J.PlanName.plan c.args.self.now c.in-Some.hand.line c.in-Some-row.state row at c.args.worker c.in-Some.ensures.0 c.in-Placing.worker c.in-Placing.is row.contents refl), c.in-Some.ensures.1)
