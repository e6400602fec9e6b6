use Rattle.way_laws.proofs.Runs.{same-run}
use Rattle.way_laws.proofs.same_run_if_none_differs.Goals as goal

pub returns : goal.returns
returns c = same-run
