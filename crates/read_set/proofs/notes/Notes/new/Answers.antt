use Rattle.read_set.proofs.Keeping.{none-noted}
use Rattle.read_set.proofs.notes.Notes.new.Goals as goal

pub invariant_of-result : goal.invariant_of-result
invariant_of-result c = rw c.new.ensures.items none-noted
