use Rattle.std.proofs.Common.{◌≡◌, take}
use Rattle.read_set.specs.Ids.{without_all}
use Rattle.loan_meaning.proofs.lists.without_all.Given as goal

abbrev pub invariant-loop-other : goal.invariant-loop-other
invariant-loop-other l = l.kept.items ≡ without_all l.gone (take l.other-index l.ids)
