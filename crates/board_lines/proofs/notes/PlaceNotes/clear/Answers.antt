use Rattle.board_lines.proofs.Noting.{none_held}
use Rattle.board_lines.proofs.notes.PlaceNotes.clear.Goals as goal

pub invariant_of-self : goal.invariant_of-self
invariant_of-self g c = none_held c.take.new.self c.take.ensures.after
