use Rattle.std.proofs.Common.{ℕ, List, ap, sym, ◌∙◌, take}
use Rattle.std.specs.Prelude.{Option, option_map}
use Rattle.std.specs.Borrow.{Bor}
use Rattle.std.specs.List.{flat_map}
use Rattle.csv_table.specs.Text.{bytes_of}
use Rattle.table_diff.specs.Differences.{changes_to, changes_where, with_rows}
use Rattle.table_diff.specs.Rows.{RowTexts, named}
use Rattle.table_diff.proofs.Each.{all, rows-step}
use Rattle.table_diff.proofs.Written.{no-rows, wide}
use Rattle.table_diff.proofs.changes.add_changes.Goals as goal

pub loop-row-init : goal.loop-row-init
loop-row-init c = sym (no-rows c.args.out.now)

pub add_changes_of-requires : goal.add_changes_of-requires
add_changes_of-requires c =
    wide c.args.out.now c.loop-row.out (flat_map (changes_to c.args.form.now.table.now (bytes_of c.args.form.now.columns.now) c.args.right.now) (take c.loop-row.row-index c.args.left.now)) c.loop-row.invariant c.requires

pub loop-row-preserved : goal.loop-row-preserved
loop-row-preserved c =
    let columns : List (List ℕ) = bytes_of c.args.form.now.columns.now in
    rows-step (changes_to c.args.form.now.table.now columns c.args.right.now) c.args.left.now c.loop-row.row-index c.row-item.result
    (changes_where c.args.form.now.table.now columns c.row-item.result (option_map (λ (r : Bor RowTexts). r.now) c.find.result)) c.args.out.now c.loop-row.out c.add_changes_of.new.out
    c.loop-row-test.true c.row-item.is c.in_ok-add_changes_of.ensures
    (ap (λ (o : Option RowTexts). changes_where c.args.form.now.table.now columns c.row-item.result o) (c.find.ensures ∙ ap (λ (n : List ℕ). named c.args.right.now n) c.name.ensures))
    c.loop-row.invariant

pub returns : goal.returns
returns c =
    c.loop-row.invariant
    ∙ ap (λ (l : List RowTexts). option_map
    (with_rows (flat_map (changes_to c.args.form.now.table.now
    (bytes_of c.args.form.now.columns.now) c.args.right.now) l)) c.args.out.now)
    (all c.args.left.now c.loop-row.row-index c.loop-row-test.false)
