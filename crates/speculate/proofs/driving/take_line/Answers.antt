use Rattle.std.proofs.Common.{refl}
use Rattle.board_steps.specs.Steps.Call.{Take}
use Rattle.board_lines.specs.declared.reply.Reply.TheVariants as replies
use Rattle.speculate.proofs.Drives.{drives, take_only}
use Rattle.speculate.proofs.Phases.{take_goes}
use Rattle.speculate.proofs.driving.take_line.Goals as goal

pub returns : goal.returns
returns g c =
    let goes = take_goes g.J.PlanName.plan c.args.board.now c.args.line c.requires c.in-Taken.attempt c.take.new.self c.in-Taken.ensures in
    record {
      reads = goes.0;
      attempt = goes.1;
      led = drives {J = g.row.J.Denot} g.J.PlanName.plan c.args.line c.args.board.now c.take.new.self (Take 0 c.args.line) (replies.Taken c.in-Taken.attempt) tt refl tt c.in-Taken.ensures;
    }

pub unreachable-requires : goal.unreachable-requires
unreachable-requires g c =
    take_only g.J.PlanName.plan c.args.board.now c.take.new.self c.args.line c.take.result c.requires c.take.ensures c.in_default.not-Taken
