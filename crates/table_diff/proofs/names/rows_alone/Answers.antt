use Rattle.std.proofs.Common.{◌++◌, ◌∷◌, [], Bool, List, ap, ◌∙◌}
use Rattle.std.specs.Prelude.{if◌then◌else◌, is_none}
use Rattle.table_diff.specs.Rows.{RowTexts, alone, named}
use Rattle.table_diff.proofs.Each.{all, kept}
use Rattle.table_diff.proofs.names.rows_alone.Goals as goal

pub loop-row-preserved : goal.loop-row-preserved
loop-row-preserved c =
    let p : RowTexts → Bool = λ r. is_none (named c.args.others.now r.name) in
    c.in_ok-push_alone.ensures
    ∙ ap (λ (l : List RowTexts). l ++ (if p c.row-item.result then c.row-item.result ∷ [] else [])) c.loop-row.invariant
    ∙ kept p c.args.rows.now c.loop-row.row-index c.row-item.result c.loop-row-test.true c.row-item.is

pub returns : goal.returns
returns c = c.loop-row.invariant ∙ ap (λ (l : List RowTexts). alone l c.args.others.now) (all c.args.rows.now c.loop-row.row-index c.loop-row-test.false)
