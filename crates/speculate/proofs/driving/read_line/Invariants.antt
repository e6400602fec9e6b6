use Rattle.std.proofs.Common.{◌≡◌, ◌-◌, ◌^◌, length, suc}
use Rattle.board_steps.specs.Board.{row_at}
use Rattle.speculate.specs.Devices.Phases.{Drives, Reads}
use Rattle.speculate.proofs.driving.read_line.Given as goal

abbrev pub invariant-keys : goal.invariant-keys
invariant-keys g l = record {
  reads : Reads g.J.PlanName.plan l.board l.line l.notes;
  next : suc l.attempt ≡ (row_at l.board l.line).next;
  led : Drives g.J.PlanName.plan l.fn.board l.board l.line;
}

-- a usize counts them
abbrev pub decreases-keys : goal.decreases-keys
decreases-keys g l = 2 ^ 64 - length l.notes
