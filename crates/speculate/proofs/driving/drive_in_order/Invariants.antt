use Rattle.std.proofs.Common.{◌+◌, ◌≤◌, length}
use Rattle.speculate.specs.Driving.{RunsTo}
use Rattle.speculate.specs.Devices.Phases.{AreFresh, Stands}
use Rattle.speculate.proofs.driving.drive_in_order.Given as goal

abbrev pub invariant-loop-position : goal.invariant-loop-position
invariant-loop-position g l = record {
  stands : Stands g.J.PlanName.plan l.board (g.J.PlanName.plan.first + l.position);
  fresh : AreFresh l.board (g.J.PlanName.plan.first + l.position);
  few : l.position ≤ length g.J.PlanName.plan.readings;
  led : RunsTo g.J.PlanName.plan l.fn.board l.board;
}
