use Rattle.std.proofs.Common.{ℕ, List, ap, refl, ◌∙◌}
use Rattle.csv_table.specs.Text.{bytes_of}
use Rattle.table_diff.specs.Devices.{count_in}
use Rattle.table_diff.specs.Rows.{RowTexts, copies, says}
use Rattle.table_diff.proofs.Counts.{few, up-step}
use Rattle.table_diff.proofs.Each.{all-rows}
use Rattle.table_diff.proofs.surplus.counts_of.Goals as goal

pub loop-row-init : goal.loop-row-init
loop-row-init c = λ text. rw c.new-counts.ensures.empty refl

pub count_row-requires : goal.count_row-requires
count_row-requires c = few (bytes_of c.args.columns.now) (says (bytes_of c.args.columns.now) c.row-item.result.now) c.args.rows.now c.loop-row.row-index (count_in c.loop-row.counts (says (bytes_of c.args.columns.now) c.row-item.result.now)) c.loop-row-test.true c.number_fits.ensures
    (c.loop-row.invariant (says (bytes_of c.args.columns.now) c.row-item.result.now))

pub loop-row-preserved : goal.loop-row-preserved
loop-row-preserved c = λ text.
    up-step (bytes_of c.args.columns.now) c.args.rows.now c.loop-row.row-index c.row-item.result (λ (t : List ℕ). count_in c.loop-row.counts t) (λ (t : List ℕ). count_in c.count_row.new.counts t) c.loop-row-test.true c.row-item.is
    c.loop-row.invariant c.in_ok-count_row.ensures text

pub returns : goal.returns
returns c = λ text. c.loop-row.invariant text ∙ ap (λ (l : List RowTexts). copies (bytes_of c.args.columns.now) text l) (all-rows c.args.rows.now c.loop-row.row-index c.loop-row-test.false)
