use Rattle.std.proofs.Common.{◌≡◌, drop}
use Rattle.read_set.specs.Notes.{note_of}
use Rattle.read_set.proofs.notes.note_among.Given as goal

abbrev pub invariant-loop-note : goal.invariant-loop-note
invariant-loop-note l = note_of (drop l.note-index l.notes) l.key ≡ note_of l.notes l.key
