use Rattle.std.proofs.Common.{subst}
use Rattle.board_steps.specs.Board.{Board}
use Rattle.board_steps.specs.Steps.{CommitStep}
use Rattle.board_steps.specs.Steps.Call.{Commit}
use Rattle.board_steps.specs.Steps.Reply.{Commits}
use Rattle.board_lines.specs.Replies.{Answers}
use Rattle.speculate.specs.declared.ready.Mark.TheVariants as marks
use Rattle.speculate.proofs.Readying.{puts_at}
use Rattle.speculate.proofs.Calling.{commit_ready, commit_other}
use Rattle.speculate.proofs.board.Board.commit.Goals as goal

pub invariant_of-self : goal.invariant_of-self
invariant_of-self g c =
    commit_ready c.self.inside.lines c.commit.new.self c.args.line c.self.inside.ready c.put.new.self c.in-Committed.ensures c.self.invariant
    (puts_at g.J.PlanName.plan c.plan-plan.result.now c.self.inside.lines c.position_of.result c.args.line c.position_of.ensures c.plan-plan.ensures.plan c.plan-plan.ensures.reached
    c.self.inside.ready c.put.new.self marks.Nowhere c.put.ensures)

pub invariant_of-self-in_default : goal.invariant_of-self-in_default
invariant_of-self-in_default g c =
    commit_other g.J.PlanName.plan c.self.inside.lines c.commit.new.self c.args.line c.self.inside.ready c.commit.result c.in_default.not-Committed c.commit.ensures c.self.invariant

pub returns-in-Committed : goal.returns-in-Committed
returns-in-Committed g c = subst (λ (b : Board). CommitStep b c.args.line Commits c.commit.new.self) c.self.view_is c.in-Committed.ensures

pub returns-in_default : goal.returns-in_default
returns-in_default g c = subst (λ (b : Board). Answers g.J.PlanName.plan b (Commit c.args.line) c.commit.result c.commit.new.self) c.self.view_is c.commit.ensures
