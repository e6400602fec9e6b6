use Rattle.std.proofs.Common.{ap}
use Rattle.std.specs.Prelude.{Some, option_map}
use Rattle.board_steps.specs.Board.{holder}
use Rattle.board_lines.specs.Acts.{notes_at}
use Rattle.board_lines.specs.Notes.{contents_at}
use Rattle.board_lines.specs.Parts.{row_shown}
use Rattle.board_lines.proofs.Rows.{held_there}
use Rattle.board_lines.proofs.Standing.{is_under_way, no_version, not_placing}
use Rattle.board_lines.proofs.lines.Lines.under_way.Goals as goal

pub returns-in_default : goal.returns-in_default
returns-in_default g c = λ n notes last e. c.in_default.ensures n (ap holder e)

pub returns-in_default-row : goal.returns-in_default-row
returns-in_default-row g c = absurd (c.in_default-row.ensures (held_there c.args.self.now c.in-Some.line c.args.worker c.in-Some.ensures))

pub returns-in_default-state : goal.returns-in_default-state
returns-in_default-state g c =
    not_placing g.J.PlanName.plan c.args.self.now c.in-Some.line c.in-Some-row.state (row_shown c.in-Some-row.row.now) c.in-Some-row.ensures c.args.worker c.in-Some.ensures c.in_default-state.not-Placing

pub returns-in_default-version : goal.returns-in_default-version
returns-in_default-version g c =
    no_version g.J.PlanName.plan c.args.self.now c.in-Some.line c.in-Some-row.state (row_shown c.in-Some-row.row.now) c.in-Some-row.ensures c.args.worker c.in-Some.ensures
    (ap (option_map contents_at) c.in_default-version.is)

pub returns : goal.returns
returns g c =
    let b = c.args.self.now in
    let n = c.in-Some.line in
    let w = c.args.worker in
    let v = contents_at c.in-Some-version.place in
    let at = c.in-Some-row.ensures in
    let here = is_under_way g.J.PlanName.plan b n c.in-Some-row.state (row_shown c.in-Some-row.row.now) at w c.in-Some.ensures c.in-Placing.worker c.in-Placing.is (Some v) (ap (option_map contents_at) c.in-Some-version.is) in
    (notes_at b n, here, at.under_way w (notes_at b n) (Some v) here)
