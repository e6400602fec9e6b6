use Rattle.std.proofs.Common.{◌≡◌, ◌<◌, ◌^◌, length, sym, ap, subst, ◌∙◌}
use Rattle.std.specs.Prelude.{slice_get}
use Rattle.std.specs.FinMap.{entries}
use Rattle.read_set.specs.Plans.{Planned}
use Rattle.version_store.specs.Entries.{IsNamedAt, Line}
use Rattle.board_steps.specs.Board.{Board, row_at}
use Rattle.board_lines.specs.Parts.{IsKept, Parts, board_of}
use Rattle.board_lines.proofs.Boards.{parts_of}
use Rattle.board_lines.proofs.Rows.{entries_at}
use Rattle.board_lines.proofs.lines.Lines.keys_of.Goals as goal

pub returns : goal.returns
returns g c =
    let a = c.self.inside in
    let plan = g.J.PlanName.plan in
    let parts : Parts = parts_of a in
    let kept : IsKept plan parts = c.self.invariant.1 in
    let is : board_of plan.base parts ≡ c.args.self.now = ap (λ (x : Planned). board_of x.base parts) (sym c.self.invariant.0) ∙ c.self.view_is in
    let here = ap (λ (b : Board). (row_at b c.args.line).entries) (sym is) ∙ entries_at plan parts kept c.args.line in
    record {
      value = subst (λ (l : Line). IsNamedAt (slice_get (entries l) c.args.i) c.keys_of.result) (sym here) c.keys_of.ensures.value;
      few = subst (λ (l : Line). length (entries l) < 2 ^ 64) (sym here) c.keys_of.ensures.few;
    }
