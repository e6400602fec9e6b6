use Rattle.std.proofs.Common.{◌≡◌, ◌<◌, ℕ, slice_get}
use Rattle.board_lines.specs.Notes.{notes_by}
use Rattle.board_lines.proofs.same.same_notes.Given as goal

-- the notes so far are the same
abbrev pub invariant-loop-i : goal.invariant-loop-i
invariant-loop-i g l = (j : ℕ) → j < l.i → slice_get l.theirs j ≡ slice_get (notes_by l.plan.base l.ours) j
