use Rattle.speculate.proofs.Drives.{drives_on}
use Rattle.speculate.proofs.driving.drive_line.Goals as goal

pub returns-in_err-run_line-clause-led : goal.returns-in_err-run_line-clause-led
returns-in_err-run_line-clause-led g c =
    drives_on g.J.PlanName.plan c.args.line c.args.board.now c.take_line-attempt.new.board c.run_line.new.board c.take_line-attempt.ensures.led c.run_line.ensures.led

pub returns-clause-led : goal.returns-clause-led
returns-clause-led g c =
    let plan = g.J.PlanName.plan in
    let line = c.args.line in
    let b = c.args.board.now in
    let run = drives_on plan line b c.take_line-attempt.new.board c.run_line.new.board c.take_line-attempt.ensures.led c.run_line.ensures.led in
    drives_on plan line b c.run_line.new.board c.commit_line.new.board run c.commit_line.ensures.led
