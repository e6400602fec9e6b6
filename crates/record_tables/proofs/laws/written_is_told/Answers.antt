use Rattle.record_tables.proofs.ToldBack.{told-back}
use Rattle.record_tables.proofs.laws.written_is_told.Goals as goal

pub returns : goal.returns
returns c = told-back
