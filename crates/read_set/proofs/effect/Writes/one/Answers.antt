use Rattle.read_set.proofs.Rising.{one-rises}
use Rattle.read_set.proofs.effect.Writes.one.Goals as goal

pub invariant_of-result : goal.invariant_of-result
invariant_of-result c = rw (c.in_ok-push.ensures.items, c.in_ok-entries.ensures.items) (one-rises c.args.key)
