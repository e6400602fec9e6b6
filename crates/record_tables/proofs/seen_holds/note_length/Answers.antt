use Rattle.std.proofs.Common.{◌∙◌, ◌≡◌, None, Some, ap, arith, rules, sym}
use Rattle.sip_reader.specs.Texts.{is_id}
use Rattle.record_tables.proofs.RowsBefore.{queues-kept, queues-put, queues-same, read-none, read-some}
use Rattle.record_tables.proofs.seen_holds.note_length.Goals as goal

pub returns-in_default : goal.returns-in_default
returns-in_default c = λ before row same has.
    let none : c.in_ok-item.field-0 ≡ None = search rules in
    queues-same before row c.args.lengths.now (ap is_id (sym same) ∙ read-none c.args.text.now c.in_ok-item.field-0 c.in_ok-item.ensures none) has

pub returns-in_ok-insert : goal.returns-in_ok-insert
returns-in_ok-insert c = λ before row same has.
    let some : c.in_ok-item.field-0 ≡ Some c.in-Some.item = search rules in
    queues-put before row c.args.lengths.now c.insert.new.self c.in-Some.item c.length_of-length.result (read-some c.args.text.now c.in-Some.item c.in_ok-item.field-0 c.in_ok-item.ensures some ∙ same)
    c.length_of-length.ensures (omega (arith, c.if-length-lt-QUEUE_MAX.true)) c.in_ok-insert.ensures.updates.0 has

pub returns-else-length-lt-QUEUE_MAX : goal.returns-else-length-lt-QUEUE_MAX
returns-else-length-lt-QUEUE_MAX c = λ before row same has.
    let some : c.in_ok-item.field-0 ≡ Some c.in-Some.item = search rules in
    queues-kept before row c.args.lengths.now c.in-Some.item (read-some c.args.text.now c.in-Some.item c.in_ok-item.field-0 c.in_ok-item.ensures some ∙ same)
    (omega (arith, c.if-length-lt-QUEUE_MAX.false, c.length_of-length.ensures)) has
