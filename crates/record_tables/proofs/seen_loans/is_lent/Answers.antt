use Rattle.std.proofs.Common.{◌∙◌}
use Rattle.record_tables.proofs.RowsBefore.{is_lent-by}
use Rattle.record_tables.proofs.seen_loans.is_lent.Goals as goal

pub returns : goal.returns
returns c = λ loans has. c.contains_key.ensures ∙ is_lent-by loans c.args.item.now _ (has c.args.item.now c.keeps_its_form.ensures)
