use Rattle.read_set.proofs.Rising.{none-rise}
use Rattle.read_set.proofs.effect.Draft.with_room.Goals as goal

pub invariant_of-result : goal.invariant_of-result
invariant_of-result c = rw c.in_ok-with_capacity.ensures.items none-rise
