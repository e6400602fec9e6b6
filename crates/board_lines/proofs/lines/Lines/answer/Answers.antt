use Rattle.std.proofs.Common.{◌≡◌, Option, Some, option_copied, sym, ap, ◌∙◌, rules}
use Rattle.std.specs.Prelude.{option_map}
use Rattle.version_store.specs.declared.table.Place.{Place}
use Rattle.board_lines.specs.Notes.{contents_at}
use Rattle.board_lines.specs.Parts.{answer_by, row_shown}
use Rattle.board_lines.proofs.Standing.{its_answer, no_answer, no_line_answer}
use Rattle.board_lines.proofs.lines.Lines.answer.Goals as goal

pub returns-in_default : goal.returns-in_default
returns-in_default g c = no_line_answer c.args.self.now c.args.line c.in_default.ensures

pub returns-in_default-state : goal.returns-in_default-state
returns-in_default-state g c = no_answer g.J.PlanName.plan c.args.self.now c.args.line c.in-Some.state (row_shown c.in-Some.row.now) c.in-Some.ensures c.in_default-state.not-Committed

pub returns-in_default-version : goal.returns-in_default-version
returns-in_default-version g c =
    sym (ap (λ (v : Option (Place _)). answer_by (option_map contents_at v)) c.in_default-version.is)
    ∙ its_answer g.J.PlanName.plan c.args.self.now c.args.line c.in-Some.state (row_shown c.in-Some.row.now) c.in-Some.ensures c.in-Committed.is

pub returns : goal.returns
returns g c =
    let here : option_copied c.answer.result ≡ answer_by (Some (contents_at c.in-Some-version.place)) = search (rules, c.show.ensures) in
    here
    ∙ sym (ap (λ (v : Option (Place _)). answer_by (option_map contents_at v)) c.in-Some-version.is)
    ∙ its_answer g.J.PlanName.plan c.args.self.now c.args.line c.in-Some.state (row_shown c.in-Some.row.now) c.in-Some.ensures c.in-Committed.is
