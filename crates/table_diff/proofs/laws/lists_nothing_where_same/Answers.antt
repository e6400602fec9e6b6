use Rattle.table_diff.proofs.Same.{same}
use Rattle.table_diff.proofs.laws.lists_nothing_where_same.Goals as goal

pub returns : goal.returns
returns c = same
