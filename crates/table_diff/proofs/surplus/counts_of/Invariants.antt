use Rattle.std.proofs.Common.{◌≡◌, ℕ, List, map, take}
use Rattle.std.specs.Borrow.{Bor}
use Rattle.csv_table.specs.Text.{bytes_of}
use Rattle.table_diff.specs.Devices.{count_in}
use Rattle.table_diff.specs.Rows.{RowTexts, copies}
use Rattle.table_diff.proofs.surplus.counts_of.Given as goal

-- the counts of the first rows
abbrev pub invariant-loop-row : goal.invariant-loop-row
invariant-loop-row l = (text : List ℕ) → count_in l.counts text ≡ copies (bytes_of l.columns) text (take l.row-index (map (λ (r : Bor RowTexts). r.now) l.rows))
