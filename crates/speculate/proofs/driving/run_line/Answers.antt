use Rattle.std.proofs.Common.{subst, sym}
use Rattle.read_set.specs.Settling.{Contents}
use Rattle.speculate.specs.Devices.Phases.{Appears}
use Rattle.speculate.proofs.Drives.{drives_on}
use Rattle.speculate.proofs.driving.run_line.Goals as goal

pub publish_line-requires : goal.publish_line-requires
publish_line-requires g c =
    subst (λ (v : Contents). Appears g.J.PlanName.plan c.read_line.new.board c.args.line v) (sym c.in_ok-place.ensures) c.in_ok-version.ensures.ready

pub returns-in_err-publish_line-clause-led : goal.returns-in_err-publish_line-clause-led
returns-in_err-publish_line-clause-led g c =
    drives_on g.J.PlanName.plan c.args.line c.args.board.now c.read_line.new.board c.publish_line.new.board c.read_line.ensures.led c.publish_line.ensures.led

pub returns-clause-led : goal.returns-clause-led
returns-clause-led g c =
    let plan = g.J.PlanName.plan in
    let line = c.args.line in
    let b = c.args.board.now in
    let proves = drives_on plan line b c.read_line.new.board c.publish_line.new.board c.read_line.ensures.led c.publish_line.ensures.led in
    drives_on plan line b c.publish_line.new.board c.check_line.new.board proves c.check_line.ensures.led
