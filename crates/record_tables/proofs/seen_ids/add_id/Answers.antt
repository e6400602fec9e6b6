use Rattle.std.proofs.Common.{◌∙◌, ◌≡◌, None, Some, ap, rules, sym}
use Rattle.sip_reader.specs.Texts.{is_id}
use Rattle.record_tables.proofs.RowsBefore.{ids-more, ids-same, read-none, read-some}
use Rattle.record_tables.proofs.seen_ids.add_id.Goals as goal

pub returns-in_ok-insert : goal.returns-in_ok-insert
returns-in_ok-insert c = λ column before row same has.
    let some : c.in_ok-id.field-0 ≡ Some c.in-Some.id = search rules in
    ids-more column before row _ _ c.in-Some.id (read-some c.args.text.now c.in-Some.id c.in_ok-id.field-0 c.in_ok-id.ensures some ∙ same) c.in_ok-insert.ensures.updates.0 has

pub returns-in_default : goal.returns-in_default
returns-in_default c = λ column before row same has.
    let none : c.in_ok-id.field-0 ≡ None = search rules in
    ids-same column before row _ (ap is_id (sym same) ∙ read-none c.args.text.now c.in_ok-id.field-0 c.in_ok-id.ensures none) has
