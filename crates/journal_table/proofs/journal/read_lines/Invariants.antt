use Rattle.std.proofs.Common.{◌≡◌, ◌+◌, length}
use Rattle.journal_table.specs.Journal.{lines_of}
use Rattle.journal_table.proofs.Lines.{lines_left, with_front}
use Rattle.journal_table.proofs.journal.read_lines.Given as goal

-- the lines so far and those of what is left are those of all rows
abbrev pub invariant-loop-row : goal.invariant-loop-row
invariant-loop-row l =
    with_front l.lines.items (lines_left (length l.lines.items + 1) l.before l.rows.rows) ≡ lines_of l.fn.rows.rows

abbrev pub decreases-loop-row : goal.decreases-loop-row
decreases-loop-row l = l.rows.size
