use Rattle.std.proofs.Common.{ℕ, List, ap, map, take, ◌∙◌}
use Rattle.std.specs.Borrow.{Bor}
use Rattle.csv_table.specs.Text.{bytes_of}
use Rattle.table_diff.specs.Devices.{count_in}
use Rattle.table_diff.specs.Rows.{RowTexts, copies, each, left_over, says}
use Rattle.table_diff.proofs.Counts.{down-step, left-step}
use Rattle.table_diff.proofs.Each.{all-rows}
use Rattle.table_diff.proofs.surplus.rows_left_over.Goals as goal

pub loop-row-preserved : goal.loop-row-preserved
loop-row-preserved c =
    let columns : List (List ℕ) = bytes_of c.args.columns.now in
    let others : List RowTexts = map (λ (r : Bor RowTexts). r.now) c.args.others.now in
    record {
      counts = λ text.
          down-step columns c.args.rows.now c.loop-row.row-index c.row-item.result (λ (t : List ℕ). copies columns t others) (λ (t : List ℕ). count_in c.loop-row.counts t)
          (λ (t : List ℕ). count_in c.push_left_over.new.counts t) c.loop-row-test.true c.row-item.is c.loop-row.invariant.counts c.in_ok-push_left_over.ensures.rest text;
      found =
          left-step columns c.args.rows.now others c.loop-row.row-index c.row-item.result (count_in c.loop-row.counts (says columns c.row-item.result.now)) (map (λ (r : Bor RowTexts). r.now) c.loop-row.found.items) (map (λ (r : Bor RowTexts). r.now) c.push_left_over.new.found.items)
          c.loop-row-test.true c.row-item.is (c.loop-row.invariant.counts (says columns c.row-item.result.now)) c.in_ok-push_left_over.ensures.found c.loop-row.invariant.found;
    }

pub returns : goal.returns
returns c =
    c.loop-row.invariant.found
    ∙ ap (λ (l : List RowTexts). each
    (λ (place : ℕ) (row : RowTexts). left_over (bytes_of c.args.columns.now)
    (take place (map (λ (r : Bor RowTexts). r.now) c.args.rows.now))
    (map (λ (r : Bor RowTexts). r.now) c.args.others.now) row) l)
    (all-rows c.args.rows.now c.loop-row.row-index c.loop-row-test.false)
