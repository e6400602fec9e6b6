use Rattle.std.proofs.Common.{◌≡◌, ◌+◌, suc, sym, ap, subst, ◌∙◌, arith}
use Rattle.read_set.specs.Plans.{Planned}
use Rattle.board_steps.specs.Board.{Board, IsCommitted, IsLine, row_at}
use Rattle.board_lines.specs.Parts.{IsKept, Parts, board_of}
use Rattle.board_lines.proofs.Boards.{parts_of}
use Rattle.board_lines.proofs.CommittedLines.{committed_there, newest_committed}
use Rattle.board_lines.proofs.Rows.{next_shown}
use Rattle.board_lines.proofs.lines.Lines.attempt.Goals as goal

pub unreachable-requires : goal.unreachable-requires
unreachable-requires g c =
    let a = c.self.inside in
    let plan = g.J.PlanName.plan in
    let parts : Parts = parts_of a in
    let kept : IsKept plan parts = c.self.invariant.1 in
    let is : board_of plan.base parts ≡ c.args.self.now = ap (λ (x : Planned). board_of x.base parts) (sym c.self.invariant.0) ∙ c.self.view_is in
    let committed : IsCommitted (row_at (board_of plan.base parts) c.args.line).state = subst (λ (b : Board). IsCommitted (row_at b c.args.line).state) (sym is) c.requires in
    absurd (newest_committed plan parts kept c.args.line committed (sym c.in_default.ensures.newest))

pub returns : goal.returns
returns g c =
    let a = c.self.inside in
    let plan = g.J.PlanName.plan in
    let parts : Parts = parts_of a in
    let kept : IsKept plan parts = c.self.invariant.1 in
    let is : board_of plan.base parts ≡ c.args.self.now = ap (λ (x : Planned). board_of x.base parts) (sym c.self.invariant.0) ∙ c.self.view_is in
    let committed : IsCommitted (row_at (board_of plan.base parts) c.args.line).state = subst (λ (b : Board). IsCommitted (row_at b c.args.line).state) (sym is) c.requires in
    let there : IsLine (board_of plan.base parts) c.args.line = committed_there (board_of plan.base parts) c.args.line committed in
    let next = next_shown plan parts kept c.args.line there (c.in-Some.attempt + 1) c.in-Some.ensures.begun in
    subst (λ (b : Board). suc c.in-Some.attempt ≡ (row_at b c.args.line).next) is (omega (arith, next))
