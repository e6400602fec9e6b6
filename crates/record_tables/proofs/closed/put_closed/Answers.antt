use Rattle.std.proofs.Common.{ap, ◌∙◌, refl}
use Rattle.circ_records.specs.MadeFees.{is_taken}
use Rattle.circ_records.specs.declared.record.Record.TheVariants as record_of
use Rattle.record_tables.proofs.Judged.{closed-by}
use Rattle.record_tables.proofs.Telling.{tells-closed}
use Rattle.record_tables.proofs.closed.put_closed.Goals as goal

pub returns-then-branch-clause-rule : goal.returns-then-branch-clause-rule
returns-then-branch-clause-rule c = λ r row says tells.
    rw c.if-branch.true at (closed-by c.args.first r row c.args.said.now c.args.records.now c.insert_fee.new.records c.in_ok-insert_fee.field-0 _ _ says tells c.in_ok-insert_fee.ensures.put c.in_ok-insert_fee.ensures.double refl refl)

pub returns-then-not-has_patron-clause-rule : goal.returns-then-not-has_patron-clause-rule
returns-then-not-has_patron-clause-rule c = λ r row says tells.
    rw (c.if-branch.false, c.if-not-has_patron.true) at (closed-by c.args.first r row c.args.said.now c.args.records.now c.insert_fee.new.records c.in_ok-insert_fee.field-0 c.has_patron.result _ says tells c.in_ok-insert_fee.ensures.put c.in_ok-insert_fee.ensures.double c.has_patron.ensures refl)

pub returns-then-is_taken-clause-rule : goal.returns-then-is_taken-clause-rule
returns-then-is_taken-clause-rule c = λ r row says tells.
    rw (c.if-branch.false, c.if-not-has_patron.false, c.if-is_taken.true) at
    (closed-by c.args.first r row c.args.said.now c.args.records.now c.insert_fee.new.records c.in_ok-insert_fee.field-0 c.has_patron.result c.is_taken.result says tells c.in_ok-insert_fee.ensures.put c.in_ok-insert_fee.ensures.double c.has_patron.ensures (c.is_taken.ensures ∙ ap (is_taken c.args.first) c.as_bytes.ensures))

pub returns-else-is_taken-clause-rule : goal.returns-else-is_taken-clause-rule
returns-else-is_taken-clause-rule c = λ r row says tells.
    rw (c.if-branch.false, c.if-not-has_patron.false, c.if-is_taken.false) at
    (closed-by c.args.first r row c.args.said.now c.args.records.now c.insert_fee.new.records c.in_ok-insert_fee.field-0 c.has_patron.result c.is_taken.result says tells c.in_ok-insert_fee.ensures.put c.in_ok-insert_fee.ensures.double c.has_patron.ensures (c.is_taken.ensures ∙ ap (is_taken c.args.first) c.as_bytes.ensures))

pub returns-else-is_taken-clause-told : goal.returns-else-is_taken-clause-told
returns-else-is_taken-clause-told c = λ last r before row says tells fresh.
    tells-closed r before row c.args.records.now c.insert_fee.new.records (record_of.Fee c.args.said.now.fee) tells fresh says.3 (rw says.2 at c.in_ok-insert_fee.ensures.put)
