use Rattle.std.proofs.Common.{◌≡◌, ℕ, List, take}
use Rattle.std.specs.Prelude.{option_map}
use Rattle.std.specs.Borrow.{Bor}
use Rattle.table_diff.specs.Devices.{in_map}
use Rattle.table_diff.specs.Rows.{RowTexts, named}
use Rattle.table_diff.proofs.names.ColumnNames.of.Given as goal

-- the first rows by their names
abbrev pub invariant-loop-row : goal.invariant-loop-row
invariant-loop-row l = (name : List ℕ) → option_map (λ (r : Bor RowTexts). r.now) (in_map l.by_name name) ≡ named (take l.row-index l.rows) name
