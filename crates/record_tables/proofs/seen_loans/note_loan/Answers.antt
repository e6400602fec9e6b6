use Rattle.std.proofs.Common.{◌∙◌, ◌≡◌, None, Some, ap, rules, sym}
use Rattle.csv.specs.Records.{fields_of}
use Rattle.sip_reader.specs.Texts.{is_id}
use Rattle.record_tables.specs.RowsBefore.{id_in}
use Rattle.record_tables.proofs.RowsBefore.{loans-kept, loans-put, loans-same, read-none, read-some}
use Rattle.record_tables.proofs.seen_loans.note_loan.Goals as goal

pub returns-in_default : goal.returns-in_default
returns-in_default c = λ before has.
    let none : c.in_ok-item.field-0 ≡ None = search rules in
    loans-same before (fields_of c.args.row.now) c.args.lent.now (ap is_id (sym c.column.ensures) ∙ read-none c.column.result.now c.in_ok-item.field-0 c.in_ok-item.ensures none) has

pub returns-in_ok-insert : goal.returns-in_ok-insert
returns-in_ok-insert c = λ before has.
    let some : c.in_ok-item.field-0 ≡ Some c.in-Some.item = search rules in
    loans-put before (fields_of c.args.row.now) c.args.lent.now c.insert.new.self c.in-Some.item c.in_ok-patron.patron
    (read-some c.column.result.now c.in-Some.item c.in_ok-item.field-0 c.in_ok-item.ensures some ∙ c.column.ensures)
    (c.in_ok-patron.ensures ∙ ap id_in c.column-then-not-contains_key.ensures)
    (sym c.contains_key.ensures ∙ c.if-not-contains_key.true) c.in_ok-insert.ensures.updates.0 has

pub returns-else-not-contains_key : goal.returns-else-not-contains_key
returns-else-not-contains_key c = λ before has.
    let some : c.in_ok-item.field-0 ≡ Some c.in-Some.item = search rules in
    loans-kept before (fields_of c.args.row.now) c.args.lent.now c.in-Some.item
    (read-some c.column.result.now c.in-Some.item c.in_ok-item.field-0 c.in_ok-item.ensures some ∙ c.column.ensures)
    (sym c.contains_key.ensures ∙ c.if-not-contains_key.false) has
