use Rattle.std.proofs.Common.{◌≡◌, map, replicate}
use Rattle.board_lines.specs.Parts.{row_shown, no_notes}
use Rattle.board_lines.proofs.lines.rows_of.Given as goal

abbrev pub invariant-loop-i : goal.invariant-loop-i
invariant-loop-i g l = map row_shown l.rows.items ≡ replicate l._i no_notes
