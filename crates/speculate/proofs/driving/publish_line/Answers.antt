use Rattle.std.proofs.Common.{arith}
use Rattle.board_steps.specs.Steps.Call.{Publish}
use Rattle.board_lines.specs.Notes.{contents_at}
use Rattle.board_lines.specs.declared.reply.Reply.TheVariants as replies
use Rattle.speculate.proofs.Drives.{act_stops, drives, drives_on, publish_other, spent_stops}
use Rattle.speculate.proofs.Phases.{lifted_goes, placed_goes, publish_for, whole_goes}
use Rattle.speculate.proofs.driving.publish_line.Goals as goal

pub acts-preserved-in-Placed : goal.acts-preserved-in-Placed
acts-preserved-in-Placed g c =
    let plan = g.J.PlanName.plan in
    let b = c.acts.board in
    let new = c.act.new.board in
    let v = contents_at c.args.place in
    record {
      appears = (placed_goes plan b c.args.line v c.acts.invariant.appears new c.in-Placed.ensures).0;
      led = drives_on plan c.args.line c.args.board.now b new c.acts.invariant.led (drives {J = g.row.J.Denot} plan c.args.line b new (Publish 0 v) replies.Placed c.acts.invariant.appears.settles (publish_for plan b c.args.line c.acts.invariant.appears.goes.stands v) tt c.in-Placed.ensures);
    }

pub acts-preserved : goal.acts-preserved
acts-preserved g c =
    let plan = g.J.PlanName.plan in
    let b = c.acts.board in
    let new = c.act.new.board in
    let v = contents_at c.args.place in
    record {
      appears = (lifted_goes plan b c.args.line v c.acts.invariant.appears new c.in-Lifted.ensures).0;
      led = drives_on plan c.args.line c.args.board.now b new c.acts.invariant.led (drives {J = g.row.J.Denot} plan c.args.line b new (Publish 0 v) replies.Lifted c.acts.invariant.appears.settles (publish_for plan b c.args.line c.acts.invariant.appears.goes.stands v) tt c.in-Lifted.ensures);
    }

pub acts-smaller-in-Placed : goal.acts-smaller-in-Placed
acts-smaller-in-Placed g c =
    let h = placed_goes g.J.PlanName.plan c.acts.board c.args.line (contents_at c.args.place) c.acts.invariant.appears c.act.new.board c.in-Placed.ensures in
    omega (arith, h.1, h.2)

pub acts-smaller : goal.acts-smaller
acts-smaller g c =
    let h = lifted_goes g.J.PlanName.plan c.acts.board c.args.line (contents_at c.args.place) c.acts.invariant.appears c.act.new.board c.in-Lifted.ensures in
    omega (arith, h.1, h.2)

pub returns-in-Whole-clause-whole : goal.returns-in-Whole-clause-whole
returns-in-Whole-clause-whole g c =
    whole_goes g.J.PlanName.plan c.acts.board c.args.line (contents_at c.args.place) c.acts.invariant.appears c.act.new.board c.in-Whole.ensures

pub returns-in-Whole-clause-led : goal.returns-in-Whole-clause-led
returns-in-Whole-clause-led g c =
    let plan = g.J.PlanName.plan in
    let b = c.acts.board in
    let new = c.act.new.board in
    drives_on plan c.args.line c.args.board.now b new c.acts.invariant.led (drives {J = g.row.J.Denot} plan c.args.line b new (Publish 0 (contents_at c.args.place)) replies.Whole c.acts.invariant.appears.settles (publish_for plan b c.args.line c.acts.invariant.appears.goes.stands (contents_at c.args.place)) tt c.in-Whole.ensures)

pub returns-in-ClockSpent-clause-led : goal.returns-in-ClockSpent-clause-led
returns-in-ClockSpent-clause-led g c =
    let plan = g.J.PlanName.plan in
    let b = c.acts.board in
    let new = c.act.new.board in
    drives_on plan c.args.line c.args.board.now b new c.acts.invariant.led (drives {J = g.row.J.Denot} plan c.args.line b new (Publish 0 (contents_at c.args.place)) replies.ClockSpent c.acts.invariant.appears.settles (publish_for plan b c.args.line c.acts.invariant.appears.goes.stands (contents_at c.args.place)) tt c.in-ClockSpent.ensures)

pub returns-in-ClockSpent-clause-fault : goal.returns-in-ClockSpent-clause-fault
returns-in-ClockSpent-clause-fault g c = spent_stops g.J.PlanName.plan c.acts.board c.act.new.board (contents_at c.args.place) c.acts.invariant.appears.settles c.in-ClockSpent.ensures

pub returns-in-Memory-clause-led : goal.returns-in-Memory-clause-led
returns-in-Memory-clause-led g c =
    let plan = g.J.PlanName.plan in
    let b = c.acts.board in
    let new = c.act.new.board in
    drives_on plan c.args.line c.args.board.now b new c.acts.invariant.led (drives {J = g.row.J.Denot} plan c.args.line b new (Publish 0 (contents_at c.args.place)) replies.Memory c.acts.invariant.appears.settles (publish_for plan b c.args.line c.acts.invariant.appears.goes.stands (contents_at c.args.place)) tt c.in-Memory.ensures)

pub returns-in-Memory-clause-fault : goal.returns-in-Memory-clause-fault
returns-in-Memory-clause-fault g c =
    act_stops g.J.PlanName.plan c.acts.board c.act.new.board c.args.line (contents_at c.args.place) c.acts.invariant.appears c.in-Memory.ensures

pub unreachable-requires : goal.unreachable-requires
unreachable-requires g c =
    publish_other g.J.PlanName.plan c.acts.board c.act.new.board c.args.line (contents_at c.args.place) c.act.result c.acts.invariant.appears c.act.ensures
    c.in_default.not-Placed c.in_default.not-Lifted c.in_default.not-Whole c.in_default.not-ClockSpent c.in_default.not-Memory
