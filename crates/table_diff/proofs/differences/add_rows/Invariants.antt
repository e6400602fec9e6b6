use Rattle.std.proofs.Common.{◌≡◌, map, take}
use Rattle.std.specs.Prelude.{option_map}
use Rattle.std.specs.Borrow.{Bor}
use Rattle.csv_table.specs.Text.{bytes_of}
use Rattle.table_diff.specs.Differences.{only_in, with_rows}
use Rattle.table_diff.specs.Rows.{RowTexts}
use Rattle.table_diff.proofs.differences.add_rows.Given as goal

-- the first rows
abbrev pub invariant-loop-row : goal.invariant-loop-row
invariant-loop-row l = l.out ≡ option_map (with_rows (map (only_in l.side l.form.table.now (bytes_of l.form.columns.now)) (take l.row-index (map (λ (r : Bor RowTexts). r.now) l.rows)))) l.initial.out
