use Rattle.std.proofs.Common.{◌≡◌, take}
use Rattle.read_set.proofs.notes.copy_notes.Given as goal

abbrev pub invariant-loop-note : goal.invariant-loop-note
invariant-loop-note l = l.copies ≡ take l.note-index l.notes
