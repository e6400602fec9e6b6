use Rattle.std.proofs.Common.{◌≡◌, take}
use Rattle.read_set.specs.Ids.{without}
use Rattle.loan_meaning.proofs.lists.kept.Given as goal

abbrev pub invariant-loop-other : goal.invariant-loop-other
invariant-loop-other l = l.kept.items ≡ without l.id (take l.other-index l.ids)
