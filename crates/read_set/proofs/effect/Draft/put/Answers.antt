use Rattle.std.proofs.Common.{rules}
use Rattle.read_set.proofs.effect.Draft.put.Goals as goal
use Rattle.read_set.proofs.effect.Draft.put.Goals.{in-List, in-Map}

pub invariant_of-self : goal.invariant_of-self
invariant_of-self c = elim c.match-self.branch [ in-List w ↦ search rules | in-Map w ↦ search rules ]
