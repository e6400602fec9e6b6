use Rattle.std.proofs.Common.{◌≡◌, take}
use Rattle.std.specs.Prelude.{option_map}
use Rattle.std.specs.List.{flat_map}
use Rattle.csv_table.specs.Text.{bytes_of}
use Rattle.table_diff.specs.Differences.{changes_to, with_rows}
use Rattle.table_diff.proofs.changes.add_changes.Given as goal

-- the rows of the first left rows
abbrev pub invariant-loop-row : goal.invariant-loop-row
invariant-loop-row l = l.out ≡ option_map (with_rows (flat_map (changes_to l.form.table.now (bytes_of l.form.columns.now) l.right) (take l.row-index l.left))) l.initial.out
