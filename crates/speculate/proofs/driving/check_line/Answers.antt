use Rattle.std.proofs.Common.{refl}
use Rattle.board_steps.specs.Steps.Call.{Check}
use Rattle.board_lines.specs.declared.reply.Reply.TheVariants as replies
use Rattle.speculate.proofs.Drives.{check_other, drives, drives_on}
use Rattle.speculate.proofs.Phases.{checked_goes, same_goes}
use Rattle.speculate.proofs.driving.check_line.Goals as goal

pub names-preserved : goal.names-preserved
names-preserved g c =
    let plan = g.J.PlanName.plan in
    let b = c.names.board in
    let new = c.check.new.self in
    record {
      proves = (same_goes plan b c.args.line c.names.invariant.proves new c.in-Same.ensures).0;
      led = drives_on plan c.args.line c.args.board.now b new c.names.invariant.led (drives {J = g.row.J.Denot} plan c.args.line b new (Check 0 c.args.line) replies.Same tt refl tt c.in-Same.ensures);
    }

pub names-smaller : goal.names-smaller
names-smaller g c = (same_goes g.J.PlanName.plan c.names.board c.args.line c.names.invariant.proves c.check.new.self c.in-Same.ensures).1

pub returns-in-Whole-clause-whole : goal.returns-in-Whole-clause-whole
returns-in-Whole-clause-whole g c = checked_goes g.J.PlanName.plan c.names.board c.args.line c.names.invariant.proves.notes c.names.invariant.proves.checks c.check.new.self c.in-Whole.ensures

pub returns-in-Whole-clause-led : goal.returns-in-Whole-clause-led
returns-in-Whole-clause-led g c =
    let plan = g.J.PlanName.plan in
    let b = c.names.board in
    let new = c.check.new.self in
    drives_on plan c.args.line c.args.board.now b new c.names.invariant.led (drives {J = g.row.J.Denot} plan c.args.line b new (Check 0 c.args.line) replies.Whole tt refl tt c.in-Whole.ensures)

pub unreachable-requires : goal.unreachable-requires
unreachable-requires g c =
    check_other g.J.PlanName.plan c.names.board c.check.new.self c.args.line c.check.result c.names.invariant.proves c.check.ensures
    c.in_default.not-Same c.in_default.not-Whole
