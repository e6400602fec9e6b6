use Rattle.std.proofs.Common.{◌∙◌, ap, refl, sym}
use Rattle.circ_records.specs.Changes.{broken_by}
use Rattle.circ_records.specs.Records.{record_at}
use Rattle.circ_records.specs.declared.changes.ListChange.TheVariants as change
use Rattle.circ_records.specs.declared.key.Key.TheVariants as key
use Rattle.circ_records.specs.declared.record.Record.TheVariants as record_of
use Rattle.record_tables.proofs.Lookups.{none-of}
use Rattle.record_tables.proofs.Judged.{fee-by, fee-patron, some-first}
use Rattle.record_tables.proofs.Telling.{tells-fee}
use Rattle.record_tables.proofs.fees.put_open.Goals as goal

pub returns-then-branch-clause-rule : goal.returns-then-branch-clause-rule
returns-then-branch-clause-rule c = λ r row says tells none.
    rw c.if-branch.true at (fee-by c.args.first r row c.args.said.now c.args.records.now c.insert_fee.new.records c.in_ok-insert_fee.field-0 _ _ says tells none c.in_ok-insert_fee.ensures.put c.in_ok-insert_fee.ensures.double refl refl)

pub returns-then-is_some-clause-rule : goal.returns-then-is_some-clause-rule
returns-then-is_some-clause-rule c = λ r row says tells none.
    sym (some-first c.in_ok-broken.broken _ (sym c.is_some.ensures ∙ c.if-is_some.true))
    ∙ rw c.if-branch.false at
    (fee-by c.args.first r row c.args.said.now c.args.records.now c.insert_fee.new.records c.in_ok-insert_fee.field-0 c.in_ok-broken.broken _ says tells none c.in_ok-insert_fee.ensures.put c.in_ok-insert_fee.ensures.double
    (c.in_ok-broken.ensures.rule ∙ ap (λ id. broken_by (change.Owes c.args.said.now.id) (record_at c.insert_fee.new.records (key.Patron id))) c.in_ok-clone.ensures.cases) refl)

pub returns-clause-rule : goal.returns-clause-rule
returns-clause-rule c = λ r row says tells none.
    rw (c.if-branch.false, none-of c.in_ok-broken.broken (sym c.is_some.ensures ∙ c.if-is_some.false)) at
    (fee-by c.args.first r row c.args.said.now c.args.records.now c.insert_fee.new.records c.in_ok-insert_fee.field-0 c.in_ok-broken.broken c.rule_of_fee.result says tells none c.in_ok-insert_fee.ensures.put c.in_ok-insert_fee.ensures.double
    (c.in_ok-broken.ensures.rule ∙ ap (λ id. broken_by (change.Owes c.args.said.now.id) (record_at c.insert_fee.new.records (key.Patron id))) c.in_ok-clone.ensures.cases) c.rule_of_fee.ensures)

pub returns-clause-told : goal.returns-clause-told
returns-clause-told c = λ last r before row says tells fresh.
    tells-fee r before row c.args.records.now c.insert_fee.new.records c.change.new.self (record_of.Fee c.args.said.now.fee) tells fresh says.3 (rw says.2 at c.in_ok-insert_fee.ensures.put)
    (rw (c.in_ok-clone.ensures.cases, c.in_ok-clone-2.ensures.cases, fee-patron c.args.said.now.fee row says.3, says.2) at (c.in_ok-broken.ensures.ok (none-of c.in_ok-broken.broken (sym c.is_some.ensures ∙ c.if-is_some.false))))
