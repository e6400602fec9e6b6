use Rattle.circ_policy.specs.Reading.{known_keys}
use Rattle.circ_policy.proofs.read.knows_keys.Goals as goal

pub returns : goal.returns
unfolding known_keys
returns c = c.has_only.ensures
