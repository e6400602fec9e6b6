use Rattle.std.proofs.Common.{◌∙◌, ap, refl, sym}
use Rattle.circ_records.specs.Changes.{broken_by}
use Rattle.circ_records.specs.Records.{record_at}
use Rattle.circ_records.specs.declared.changes.ListChange.TheVariants as change
use Rattle.circ_records.specs.declared.key.Key.TheVariants as key
use Rattle.circ_records.specs.declared.record.Loan.{Loan}
use Rattle.record_tables.proofs.Lookups.{none-of}
use Rattle.record_tables.proofs.Judged.{loan-by, some-first}
use Rattle.record_tables.proofs.Telling.{tells-loan}
use Rattle.record_tables.proofs.loans.put_loan.Goals as goal

pub returns-then-is_some-clause-rule : goal.returns-then-is_some-clause-rule
returns-then-is_some-clause-rule c = λ r row says tells.
    sym (some-first c.in_ok-broken.broken _ (sym c.is_some.ensures ∙ c.if-is_some.true))
    ∙ loan-by r row c.args.said c.args.records.now c.in_ok-broken.broken _ says tells
    (c.in_ok-broken.ensures.rule
    ∙ ap (λ id. broken_by (change.Borrows c.args.said.item)
    (record_at c.args.records.now (key.Patron id))) c.in_ok-clone.ensures.cases) refl

pub returns-clause-rule : goal.returns-clause-rule
returns-clause-rule c = λ r row says tells.
    let none = none-of c.in_ok-broken.broken (sym c.is_some.ensures ∙ c.if-is_some.false) in
    let item = c.in_ok-broken-2.ensures.rule ∙ ap (broken_by (change.Lent c.args.said.loan)) (c.in_ok-broken.ensures.ok none (key.Item c.args.said.item)) in
    rw none at (loan-by r row c.args.said c.args.records.now c.in_ok-broken.broken c.in_ok-broken-2.broken says tells (c.in_ok-broken.ensures.rule ∙ ap (λ id. broken_by (change.Borrows c.args.said.item) (record_at c.args.records.now (key.Patron id))) c.in_ok-clone.ensures.cases) item)

pub returns-clause-told : goal.returns-clause-told
returns-clause-told c = λ last r before row says tells fresh.
    let none = none-of c.in_ok-broken.broken (sym c.is_some.ensures ∙ c.if-is_some.false) in
    tells-loan r before row c.args.records.now c.change.new.self c.change-2.new.self tells fresh
    (rw (c.in_ok-clone.ensures.cases, c.in_ok-clone-2.ensures.cases, ap (λ (l : Loan). l.patron) says.3, says.2) at (c.in_ok-broken.ensures.ok none)) (rw (says.2, says.3) at (c.in_ok-broken-2.ensures.ok last))
