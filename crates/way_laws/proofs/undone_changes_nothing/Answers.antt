use Rattle.way_laws.proofs.Ruled.{undone}
use Rattle.way_laws.proofs.undone_changes_nothing.Goals as goal

pub returns : goal.returns
returns c = undone
