use Rattle.std.proofs.Common.{[], refl}
use Rattle.board_lines.proofs.Noting.{nothing_noted}
use Rattle.board_lines.proofs.notes.PlaceNotes.new.Goals as goal

pub invariant_of-result : goal.invariant_of-result
invariant_of-result g c = nothing_noted [] refl
