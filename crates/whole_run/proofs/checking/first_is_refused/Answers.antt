use Rattle.whole_run.proofs.Checked.{first-is-refused}
use Rattle.whole_run.proofs.checking.first_is_refused.Goals as goal

pub returns : goal.returns
returns c = first-is-refused
