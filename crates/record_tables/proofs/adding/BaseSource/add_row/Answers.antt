use Rattle.std.proofs.Common.{refl, sym, ◌∙◌}
use Rattle.std.proofs.lemmas.Result.{IfOk-weaker}
use Rattle.record_tables.specs.Read.{up_to}
use Rattle.schema.specs.declared.table_name.TableName.TheVariants as table
use Rattle.record_tables.proofs.Kept.{kept-closed, kept-fee, kept-item, kept-loan, kept-patron}
use Rattle.record_tables.proofs.Reading.{both-ok}
use Rattle.record_tables.proofs.adding.BaseSource.add_row.Goals as goal

pub returns-in-Patrons-clause-rule : goal.returns-in-Patrons-clause-rule
returns-in-Patrons-clause-rule c = rw c.in-Patrons.is (IfOk-weaker c.put_patron.result _ _ (λ broken h r before tells waits. h (up_to table.Patrons r before) tells) c.put_patron.ensures.rule)

pub returns-in-Patrons-clause-told : goal.returns-in-Patrons-clause-told
returns-in-Patrons-clause-told c =
    rw c.in-Patrons.is (both-ok c.put_patron.result _ _ _ (λ broken rule told none r before tells waits.
    told none r before tells (kept-patron c.args.self.now.policy.now before _ (sym (rule (up_to table.Patrons r before) tells) ∙ none)).fresh) c.put_patron.ensures.rule c.put_patron.ensures.told)

pub returns-in-Items-clause-rule : goal.returns-in-Items-clause-rule
returns-in-Items-clause-rule c = rw c.in-Items.is (IfOk-weaker c.put_item.result _ _ (λ broken h r before tells waits. h (up_to table.Items r before) tells) c.put_item.ensures.rule)

pub returns-in-Items-clause-told : goal.returns-in-Items-clause-told
returns-in-Items-clause-told c =
    rw c.in-Items.is (both-ok c.put_item.result _ _ _ (λ broken rule told none r before tells waits.
    told none r before tells (kept-item c.args.self.now.policy.now before _ (sym (rule (up_to table.Items r before) tells) ∙ none)).fresh) c.put_item.ensures.rule c.put_item.ensures.told)

pub returns-in-Loans-clause-rule : goal.returns-in-Loans-clause-rule
returns-in-Loans-clause-rule c = rw c.in-Loans.is (IfOk-weaker c.add_loan.result _ _ (λ broken h r before tells waits. h (up_to table.Loans r before) tells) c.add_loan.ensures.rule)

pub returns-in-Loans-clause-told : goal.returns-in-Loans-clause-told
returns-in-Loans-clause-told c =
    rw c.in-Loans.is (both-ok c.add_loan.result _ _ _ (λ broken rule told none r before tells waits.
    told none r before tells (kept-loan r.patrons r.items before _ (sym (rule (up_to table.Loans r before) tells) ∙ none)).fresh) c.add_loan.ensures.rule c.add_loan.ensures.told)

pub returns-in-Fees-clause-rule : goal.returns-in-Fees-clause-rule
returns-in-Fees-clause-rule c = rw c.in-Fees.is (IfOk-weaker c.add_open.result _ _ (λ broken h r before tells waits. h (up_to table.Fees r before) tells refl) c.add_open.ensures.rule)

pub returns-in-Fees-clause-told : goal.returns-in-Fees-clause-told
returns-in-Fees-clause-told c =
    rw c.in-Fees.is (both-ok c.add_open.result _ _ _ (λ broken rule told none r before tells waits.
    told none r before tells (kept-fee c.args.self.now.first r.patrons before _ (sym (rule (up_to table.Fees r before) tells refl) ∙ none)).fresh) c.add_open.ensures.rule c.add_open.ensures.told)

pub returns-in-Closed-clause-rule : goal.returns-in-Closed-clause-rule
returns-in-Closed-clause-rule c = rw c.in-Closed.is (IfOk-weaker c.add_closed.result _ _ (λ broken h r before tells waits. h (up_to table.Closed r before) tells) c.add_closed.ensures.rule)

pub returns-in-Closed-clause-told : goal.returns-in-Closed-clause-told
returns-in-Closed-clause-told c =
    rw c.in-Closed.is (both-ok c.add_closed.result _ _ _ (λ broken rule told none r before tells waits.
    told none r before tells (kept-closed c.args.self.now.first r.patrons r.fees before _ (sym (rule (up_to table.Closed r before) tells) ∙ none)).fresh) c.add_closed.ensures.rule c.add_closed.ensures.told)

pub returns-in-Holds-clause-rule : goal.returns-in-Holds-clause-rule
returns-in-Holds-clause-rule c = rw c.in-Holds.is (IfOk-weaker c.add_hold.result _ _ (λ broken h r before tells waits. h (up_to table.Holds r before) tells waits) c.add_hold.ensures.rule)
