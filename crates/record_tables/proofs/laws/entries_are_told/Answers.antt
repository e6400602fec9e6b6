use Rattle.record_tables.proofs.Entering.{entries-tell}
use Rattle.record_tables.proofs.laws.entries_are_told.Goals as goal

pub returns : goal.returns
returns c = entries-tell
