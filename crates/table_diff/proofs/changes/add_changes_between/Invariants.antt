use Rattle.std.proofs.Common.{◌≡◌, take}
use Rattle.std.specs.Prelude.{option_map}
use Rattle.csv_table.specs.Text.{bytes_of}
use Rattle.table_diff.specs.Differences.{change_at, with_rows}
use Rattle.table_diff.specs.Rows.{each}
use Rattle.table_diff.proofs.changes.add_changes_between.Given as goal

-- the rows of the first columns
abbrev pub invariant-loop-place : goal.invariant-loop-place
invariant-loop-place l = l.out ≡ option_map (with_rows (each (change_at l.form.table.now l.left l.right) (take l.place (bytes_of l.form.columns.now)))) l.initial.out
