use Rattle.log_pairs.proofs.Journals.{read-back}
use Rattle.log_pairs.proofs.rows.reads_back.Goals as goal

pub returns : goal.returns
returns c = read-back
