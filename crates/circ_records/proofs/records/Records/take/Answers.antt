use Rattle.circ_records.proofs.Positions.{rises-empty}
use Rattle.circ_records.proofs.records.Records.take.Goals as goal

pub invariant_of-self : goal.invariant_of-self
invariant_of-self c = rw (c.replace-records.ensures.after, c.new.ensures) rises-empty
