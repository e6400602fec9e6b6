use Rattle.record_tables.proofs.ReadAgain.{read-again}
use Rattle.record_tables.proofs.laws.written_reads_back.Goals as goal

pub returns : goal.returns
returns c = read-again
