use Rattle.log_pairs.proofs.Journals.{joined}
use Rattle.log_pairs.proofs.rows.joins.Goals as goal

pub returns : goal.returns
returns c = joined
