use Rattle.board_lines.specs.Parts.{row_shown}
use Rattle.board_lines.proofs.Rows.{held_there}
use Rattle.board_lines.proofs.Standing.{noted_held}
use Rattle.board_lines.proofs.lines.Lines.notes.Goals as goal

pub returns-in_default-row : goal.returns-in_default-row
returns-in_default-row g c = absurd (c.in_default-row.ensures (held_there c.args.self.now c.in-Some.line c.args.worker c.in-Some.ensures))

pub returns : goal.returns
returns g c = (
  c.in-Some.line,
  c.in-Some.ensures,
  noted_held g.J.PlanName.plan c.args.self.now c.in-Some.line c.in-Some-row.field-0-0 (row_shown c.in-Some-row.row.now) c.in-Some-row.ensures c.args.worker c.in-Some.ensures,
)
