use Rattle.way_laws.proofs.OnLoan.{lent-on-loan}
use Rattle.way_laws.proofs.lent_is_on_loan.Goals as goal

pub returns : goal.returns
returns c = lent-on-loan
