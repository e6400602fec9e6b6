use Rattle.std.proofs.Common.{◌≡◌}
use Rattle.std.specs.Prelude.{is_some}
use Rattle.journal_table.proofs.journal.read_to_end.Given as goal

-- what is left is a table where all was
abbrev pub invariant-loop-row : goal.invariant-loop-row
invariant-loop-row l = is_some l.fn.rows.rows ≡ is_some l.rows.rows

abbrev pub decreases-loop-row : goal.decreases-loop-row
decreases-loop-row l = l.rows.size
