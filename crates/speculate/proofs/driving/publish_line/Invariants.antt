use Rattle.std.proofs.Common.{◌-◌, ◌^◌}
use Rattle.board_lines.specs.Notes.{contents_at}
use Rattle.speculate.specs.Devices.Phases.{Appears, Drives}
use Rattle.speculate.proofs.driving.publish_line.Given as goal

abbrev pub invariant-acts : goal.invariant-acts
invariant-acts g l = record {
  appears : Appears g.J.PlanName.plan l.board l.line (contents_at l.fn.place);
  led : Drives g.J.PlanName.plan l.fn.board l.board l.line;
}

-- each act raises the clock
abbrev pub decreases-acts : goal.decreases-acts
decreases-acts g l = 2 ^ 64 - l.board.clock
