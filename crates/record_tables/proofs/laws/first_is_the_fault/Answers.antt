use Rattle.record_tables.proofs.First.{first-is-the-fault}
use Rattle.record_tables.proofs.laws.first_is_the_fault.Goals as goal

pub returns : goal.returns
returns c = first-is-the-fault
