use Rattle.std.proofs.Common.{◌∙◌, ◌≡◌, Some, rules}
use Rattle.std.specs.BTreeMap.{get}
use Rattle.record_tables.proofs.RowsBefore.{borrower-is, id_cmp}
use Rattle.record_tables.proofs.seen_loans.is_borrower.Goals as goal

pub returns-in-Some-Some : goal.returns-in-Some-Some
returns-in-Some-Some c = λ loans has.
    let found : Some (Some c.in-Some-Some.borrower) ≡ get id_cmp c.args.lent.now c.args.item.now = search rules in
    c.eq.ensures ∙ borrower-is loans c.args.item.now c.args.patron.now c.in-Some-Some.borrower (found ∙ has c.args.item.now c.keeps_its_form.ensures)
