use Rattle.std.proofs.lemmas.Result.{IfOk-weaker}
use Rattle.record_tables.specs.Read.{up_to}
use Rattle.schema.specs.declared.table_name.TableName.TheVariants as table
use Rattle.record_tables.proofs.adding.BaseSource.rule.Goals as goal

pub returns-in-Patrons : goal.returns-in-Patrons
returns-in-Patrons c = rw c.in-Patrons.is (IfOk-weaker c.patron_rule.result _ _ (λ broken h r before seen. h (up_to table.Patrons r before) seen) c.patron_rule.ensures)

pub returns-in-Items : goal.returns-in-Items
returns-in-Items c = rw c.in-Items.is (IfOk-weaker c.item_rule.result _ _ (λ broken h r before seen. h (up_to table.Items r before) seen) c.item_rule.ensures)

pub returns-in-Loans : goal.returns-in-Loans
returns-in-Loans c = rw c.in-Loans.is (IfOk-weaker c.loan_rule.result _ _ (λ broken h r before seen. h (up_to table.Loans r before) seen) c.loan_rule.ensures)

pub returns-in-Fees : goal.returns-in-Fees
returns-in-Fees c = rw c.in-Fees.is (IfOk-weaker c.fee_rule.result _ _ (λ broken h r before seen. h (up_to table.Fees r before) seen) c.fee_rule.ensures)

pub returns-in-Closed : goal.returns-in-Closed
returns-in-Closed c = rw c.in-Closed.is (IfOk-weaker c.closed_rule.result _ _ (λ broken h r before seen. h (up_to table.Closed r before) seen) c.closed_rule.ensures)

pub returns-in-Holds : goal.returns-in-Holds
returns-in-Holds c = rw c.in-Holds.is (IfOk-weaker c.hold_rule.result _ _ (λ broken h r before seen. h (up_to table.Holds r before) seen) c.hold_rule.ensures)
