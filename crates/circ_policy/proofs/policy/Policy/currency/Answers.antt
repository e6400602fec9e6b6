use Rattle.circ_policy.proofs.Ranges.{listed-fits}
use Rattle.circ_policy.proofs.policy.Policy.currency.Goals as goal

pub returns-clause-ranges : goal.returns-clause-ranges
returns-clause-ranges c = rw (← c.self.view_is) (listed-fits _ c.self.invariant.1)
