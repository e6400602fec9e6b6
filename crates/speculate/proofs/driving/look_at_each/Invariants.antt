use Rattle.std.proofs.Common.{◌≡◌, map, take}
use Rattle.read_set.specs.declared.notes.Note.{Note}
use Rattle.board_steps.specs.Board.{row_at}
use Rattle.speculate.specs.Devices.Phases.{Drives, Reads}
use Rattle.speculate.proofs.driving.look_at_each.Given as goal

-- the keys so far are noted
abbrev pub invariant-loop-note : goal.invariant-loop-note
invariant-loop-note g l = record {
  reads : Reads g.J.PlanName.plan l.board l.line l.notes;
  next : (row_at l.board l.line).next ≡ (row_at l.fn.board l.line).next;
  led : Drives g.J.PlanName.plan l.fn.board l.board l.line;
  keys : map (λ (n : Note). n.key) l.notes ≡ map (λ (n : Note). n.key) (take l.note-index l.asked);
}
