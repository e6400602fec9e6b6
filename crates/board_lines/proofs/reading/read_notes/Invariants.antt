use Rattle.std.proofs.Common.{◌≡◌, take}
use Rattle.board_lines.specs.Notes.{AreOnce, notes_by}
use Rattle.board_lines.proofs.reading.read_notes.Given as goal

-- the first notes
abbrev pub invariant-loop-i : goal.invariant-loop-i
invariant-loop-i g l = record {
  so_far : l.notes ≡ take l.i (notes_by l.plan.base l.noted);
  once : AreOnce l.noted;
}
