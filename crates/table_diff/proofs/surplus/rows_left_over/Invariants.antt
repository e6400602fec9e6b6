use Rattle.std.proofs.Common.{◌≡◌, ◌-◌, ℕ, List, map, take}
use Rattle.std.specs.Borrow.{Bor}
use Rattle.csv_table.specs.Text.{bytes_of}
use Rattle.table_diff.specs.Devices.{count_in}
use Rattle.table_diff.specs.Rows.{RowTexts, copies, each, left_over}
use Rattle.table_diff.proofs.surplus.rows_left_over.Given as goal

-- what is left of the others' counts after the first rows, and which of these rows are left over
abbrev pub invariant-loop-row : goal.invariant-loop-row
invariant-loop-row l = record {
  counts : (text : List ℕ) → count_in l.counts text
      ≡ copies (bytes_of l.columns) text (map (λ (r : Bor RowTexts). r.now) l.others) - copies
      (bytes_of l.columns) text (take l.row-index (map (λ (r : Bor RowTexts). r.now) l.rows));
  found : map (λ (r : Bor RowTexts). r.now) l.found.items
      ≡ each (λ (place : ℕ) (row : RowTexts). left_over (bytes_of l.columns)
      (take place (map (λ (r : Bor RowTexts). r.now) l.rows))
      (map (λ (r : Bor RowTexts). r.now) l.others) row)
      (take l.row-index (map (λ (r : Bor RowTexts). r.now) l.rows));
}
