use Rattle.std.proofs.Common.{ℕ, List, ap, ◌∙◌, take}
use Rattle.std.specs.Prelude.{option_map}
use Rattle.csv_table.specs.Text.{bytes_of}
use Rattle.table_diff.specs.Differences.{change_at, with_rows}
use Rattle.table_diff.specs.Rows.{each}
use Rattle.table_diff.proofs.Each.{all-texts, columns-step}
use Rattle.table_diff.proofs.Written.{no-rows, wide}
use Rattle.std.proofs.Common.{sym}
use Rattle.table_diff.proofs.changes.add_changes_between.Goals as goal

pub loop-place-init : goal.loop-place-init
loop-place-init c = sym (no-rows c.args.out.now)

pub add_change-requires : goal.add_change-requires
add_change-requires c =
    wide c.args.out.now c.loop-place.out (each (change_at c.args.form.now.table.now c.args.left.now c.args.right.now) (take c.loop-place.place (bytes_of c.args.form.now.columns.now))) c.loop-place.invariant c.requires

pub loop-place-preserved : goal.loop-place-preserved
loop-place-preserved c =
    columns-step (change_at c.args.form.now.table.now c.args.left.now c.args.right.now) c.args.form.now.columns.now c.loop-place.place _ c.args.out.now c.loop-place.out c.add_change.new.out c.loop-place-test.true
    c.in_ok-add_change.ensures c.loop-place.invariant

pub returns : goal.returns
returns c =
    c.loop-place.invariant
    ∙ ap (λ (l : List (List ℕ)). option_map
    (with_rows (each (change_at c.args.form.now.table.now c.args.left.now c.args.right.now) l)) c.args.out.now)
    (all-texts c.args.form.now.columns.now c.loop-place.place c.loop-place-test.false)
