use Rattle.std.proofs.Common.{◌≡◌, ℕ, List, Option, ap, get_or, refl, sym, true, ◌∙◌, take}
use Rattle.std.specs.Prelude.{is_some, option_map}
use Rattle.std.specs.Borrow.{Bor}
use Rattle.std.proofs.lemmas.List.{get_or_default}
use Rattle.table_diff.specs.Devices.{in_map}
use Rattle.table_diff.specs.Rows.{RowTexts, named, nobody}
use Rattle.table_diff.proofs.Each.{all, grown}
use Rattle.table_diff.proofs.Keys.{one-more}
use Rattle.table_diff.proofs.names.ColumnNames.of.Goals as goal

pub loop-row-init : goal.loop-row-init
loop-row-init c = λ name. rw c.new-by_name.ensures.empty refl

pub loop-row-preserved : goal.loop-row-preserved
loop-row-preserved c = λ name.
    one-more (λ (n : List ℕ). option_map (λ (r : Bor RowTexts). r.now) (in_map c.loop-row.by_name n)) (λ (n : List ℕ). option_map (λ (r : Bor RowTexts). r.now) (in_map c.put_by_name.new.by_name n))
    (take c.loop-row.row-index c.args.rows.now) c.row-item.result c.in-Ok.ensures.first c.in-Ok.ensures.after c.loop-row.invariant name
    ∙ ap (λ (l : List RowTexts). named l name)
    (grown c.args.rows.now c.loop-row.row-index c.row-item.result c.loop-row-test.true c.row-item.is)

pub returns-in-Err-clause-double : goal.returns-in-Err-clause-double
returns-in-Err-clause-double c = λ e.
    let rows = c.args.rows.now in
    let i = c.loop-row.row-index in
    let same : c.row-item.result ≡ get_or rows i nobody = c.row-item.is ∙ get_or_default rows i c.row-item.result nobody c.loop-row-test.true in
    let there : is_some (named (take i rows) c.row-item.result.name) ≡ true = ap (λ (o : Option RowTexts). is_some o) (sym (c.loop-row.invariant c.row-item.result.name)) ∙ c.in-Err.ensures.double e in
    (i, c.loop-row-test.true, ap (λ (r : RowTexts). is_some (named (take i rows) r.name)) (sym same) ∙ there)

pub invariant_of-result : goal.invariant_of-result
invariant_of-result c = λ name. c.loop-row.invariant name ∙ ap (λ (l : List RowTexts). named l name) (all c.args.rows.now c.loop-row.row-index c.loop-row-test.false)
