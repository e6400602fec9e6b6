use Rattle.std.proofs.Common.{◌≡◌}
use Rattle.std.specs.Prelude.{is_some}
use Rattle.record_tables.specs.Read.{text_rows}
use Rattle.record_tables.proofs.rows.check_table.Given as goal

-- what is left is a table where all is
abbrev pub invariant-loop-row : goal.invariant-loop-row
invariant-loop-row l = record {
  named : l.rows.table ≡ l.fn.table;
  left : is_some l.rows.rows ≡ is_some (text_rows l.fn.table l.tables);
}

abbrev pub decreases-loop-row : goal.decreases-loop-row
decreases-loop-row l = l.rows.size
