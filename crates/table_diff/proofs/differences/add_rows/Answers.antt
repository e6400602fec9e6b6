use Rattle.std.proofs.Common.{List, ap, map, sym, take, ◌∙◌}
use Rattle.std.specs.Prelude.{option_map}
use Rattle.std.specs.Borrow.{Bor}
use Rattle.csv_table.specs.Text.{bytes_of}
use Rattle.table_diff.specs.Differences.{only_in, with_rows}
use Rattle.table_diff.specs.Rows.{RowTexts}
use Rattle.table_diff.proofs.Each.{all-rows, each-step}
use Rattle.table_diff.proofs.Written.{no-rows, wide}
use Rattle.table_diff.proofs.differences.add_rows.Goals as goal

pub loop-row-init : goal.loop-row-init
loop-row-init c = sym (no-rows c.args.out.now)

pub add_row-requires : goal.add_row-requires
add_row-requires c =
    wide c.args.out.now c.loop-row.out (map (only_in c.args.side c.args.form.now.table.now (bytes_of c.args.form.now.columns.now)) (take c.loop-row.row-index (map (λ (r : Bor RowTexts). r.now) c.args.rows.now)))
    c.loop-row.invariant c.requires

pub loop-row-preserved : goal.loop-row-preserved
loop-row-preserved c =
    each-step (only_in c.args.side c.args.form.now.table.now (bytes_of c.args.form.now.columns.now)) c.args.rows.now c.loop-row.row-index c.row-item.result c.args.out.now c.loop-row.out c.add_row.new.out c.loop-row-test.true c.row-item.is
    c.in_ok-add_row.ensures c.loop-row.invariant

pub returns : goal.returns
returns c =
    c.loop-row.invariant
    ∙ ap (λ (l : List RowTexts). option_map
    (with_rows (map (only_in c.args.side c.args.form.now.table.now
    (bytes_of c.args.form.now.columns.now)) l)) c.args.out.now)
    (all-rows c.args.rows.now c.loop-row.row-index c.loop-row-test.false)
