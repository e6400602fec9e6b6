use Rattle.board_steps.specs.Board.{row_at}
use Rattle.speculate.specs.Devices.Phases.{Drives, Proves, left_of}
use Rattle.speculate.proofs.driving.check_line.Given as goal

abbrev pub invariant-names : goal.invariant-names
invariant-names g l = record {
  proves : Proves g.J.PlanName.plan l.board l.line;
  led : Drives g.J.PlanName.plan l.fn.board l.board l.line;
}

-- the notes that are left
abbrev pub decreases-names : goal.decreases-names
decreases-names g l = left_of (row_at l.board l.line).state
