use Rattle.std.proofs.Common.{refl}
use Rattle.board_steps.specs.Steps.Call.{Commit}
use Rattle.board_lines.specs.declared.reply.Reply.TheVariants as replies
use Rattle.speculate.proofs.Drives.{commit_only, drives}
use Rattle.speculate.proofs.Phases.{commit_goes}
use Rattle.speculate.proofs.driving.commit_line.Goals as goal

pub returns-clause-next : goal.returns-clause-next
returns-clause-next g c = commit_goes g.J.PlanName.plan c.args.board.now c.args.line c.requires c.commit.new.self c.in-Committed.ensures

pub returns-clause-led : goal.returns-clause-led
returns-clause-led g c = drives {J = g.row.J.Denot} g.J.PlanName.plan c.args.line c.args.board.now c.commit.new.self (Commit c.args.line) replies.Committed tt refl tt c.in-Committed.ensures

pub unreachable-requires : goal.unreachable-requires
unreachable-requires g c =
    commit_only g.J.PlanName.plan c.args.board.now c.commit.new.self c.args.line c.commit.result c.requires c.commit.ensures c.in_default.not-Committed
