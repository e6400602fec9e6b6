use Rattle.line_origins.proofs.Passing.{last_greatest}
use Rattle.line_origins.proofs.laws.last_writers_are_greatest.Goals as goal

pub returns : goal.returns
returns c = last_greatest
