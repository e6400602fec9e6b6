use Rattle.read_set.proofs.Rising.{none-rise}
use Rattle.read_set.proofs.effect.Writes.none.Goals as goal

pub invariant_of-result : goal.invariant_of-result
invariant_of-result c = rw c.new.ensures.items none-rise
