use Rattle.std.proofs.Common.{◌≡◌, ℕ, List, take}
use Rattle.csv_table.specs.Text.{bytes_of}
use Rattle.table_diff.specs.Rows.{each, piece, value_at}
use Rattle.table_diff.proofs.row.DiffRow.says.Given as goal

-- what the first columns say
abbrev pub invariant-loop-place : goal.invariant-loop-place
invariant-loop-place l = l.text.items ≡ each (λ (place : ℕ) (column : List ℕ). piece column (value_at place l.self)) (take l.place (bytes_of l.columns))
