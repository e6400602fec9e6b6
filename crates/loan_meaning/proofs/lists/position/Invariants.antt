use Rattle.std.proofs.Common.{◌≡◌, ◌+◌, drop}
use Rattle.read_set.specs.Queues.{position_from}
use Rattle.loan_meaning.proofs.lists.position.Given as goal

abbrev pub invariant-loop-i : goal.invariant-loop-i
invariant-loop-i l = position_from (l.i + 1) l.patron (drop l.i l.holds) ≡ position_from 1 l.patron l.holds
