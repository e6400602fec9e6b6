use Rattle.std.proofs.Common.{◌≡◌, ◌+◌, suc, Some, sym, ap, subst, ◌∙◌, arith}
use Rattle.read_set.specs.Plans.{Planned}
use Rattle.board_steps.specs.Board.{Board, row_at, holder}
use Rattle.board_lines.specs.Parts.{Parts, IsKept, board_of}
use Rattle.board_lines.proofs.Boards.{parts_of}
use Rattle.board_lines.proofs.Rows.{held_there, newest_held, next_shown}
use Rattle.board_lines.proofs.lines.Lines.hand.Goals as goal

pub returns-in_default-newest : goal.returns-in_default-newest
returns-in_default-newest g c =
    let a = c.self.inside in
    let plan = g.J.PlanName.plan in
    let parts : Parts = parts_of a in
    let kept : IsKept plan parts = c.self.invariant.1 in
    let is : board_of plan.base parts ≡ c.args.self.now = ap (λ (x : Planned). board_of x.base parts) (sym c.self.invariant.0) ∙ c.self.view_is in
    let held : holder (row_at (board_of plan.base parts) c.in-Some.line).state ≡ Some c.args.worker =
    subst (λ (b : Board). holder (row_at b c.in-Some.line).state ≡ Some c.args.worker) (sym is) c.in-Some.ensures in
    absurd (newest_held plan parts kept c.in-Some.line (held_there (board_of plan.base parts) c.in-Some.line c.args.worker held) c.args.worker held (sym c.in_default-newest.ensures.newest))

pub returns : goal.returns
returns g c =
    let a = c.self.inside in
    let plan = g.J.PlanName.plan in
    let parts : Parts = parts_of a in
    let kept : IsKept plan parts = c.self.invariant.1 in
    let is : board_of plan.base parts ≡ c.args.self.now = ap (λ (x : Planned). board_of x.base parts) (sym c.self.invariant.0) ∙ c.self.view_is in
    let held : holder (row_at (board_of plan.base parts) c.in-Some.line).state ≡ Some c.args.worker =
    subst (λ (b : Board). holder (row_at b c.in-Some.line).state ≡ Some c.args.worker) (sym is) c.in-Some.ensures in
    let next = next_shown plan parts kept c.in-Some.line (held_there (board_of plan.base parts) c.in-Some.line c.args.worker held) (c.in-Some-newest.attempt + 1) c.in-Some-newest.ensures.begun in
    (c.in-Some.ensures, subst (λ (b : Board). suc c.in-Some-newest.attempt ≡ (row_at b c.in-Some.line).next) is (omega (arith, next)))
