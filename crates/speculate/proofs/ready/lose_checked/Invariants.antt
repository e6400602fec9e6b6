use Rattle.speculate.proofs.Flags.{GoesPart, size}
use Rattle.speculate.proofs.ready.lose_checked.Given as goal

abbrev pub invariant-loop-position : goal.invariant-loop-position
invariant-loop-position l = GoesPart l.fn.checked l.fn.unchecked l.checked l.unchecked l.from

abbrev pub decreases-loop-position : goal.decreases-loop-position
decreases-loop-position l = size l.checked
