use Rattle.read_set.proofs.PlanFits.{counted, read-plans}
use Rattle.read_set.proofs.laws.read_plans_stay_coherent.Goals as goal

pub returns : goal.returns
returns c = read-plans c.args.base.now (counted c.args.base.now c.as_slice-records.ensures.few)
