use Rattle.std.proofs.Common.{◌≡◌, map, take}
use Rattle.std.specs.Borrow.{Bor}
use Rattle.table_diff.specs.Rows.{RowTexts, alone}
use Rattle.table_diff.proofs.names.rows_alone.Given as goal

-- those of the first rows
abbrev pub invariant-loop-row : goal.invariant-loop-row
invariant-loop-row l = map (λ (r : Bor RowTexts). r.now) l.found.items ≡ alone (take l.row-index l.rows) l.others
