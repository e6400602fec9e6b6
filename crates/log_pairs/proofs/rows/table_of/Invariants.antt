use Rattle.std.proofs.Common.{◌≡◌, ◌+◌, Some, take}
use Rattle.csv_table.specs.Text.{written}
use Rattle.journal_table.specs.Journal.{header}
use Rattle.log_pairs.specs.Rows.{rows_from}
use Rattle.log_pairs.proofs.rows.table_of.Given as goal

-- the rows so far
abbrev pub invariant-loop-exchange : goal.invariant-loop-exchange
invariant-loop-exchange l = record {
  table : l.table ≡ Some (written header (rows_from l.first (take l.exchange-index l.exchanges)));
  number : l.number ≡ l.first + l.exchange-index;
}
