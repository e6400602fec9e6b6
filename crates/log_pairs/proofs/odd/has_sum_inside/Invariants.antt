use Rattle.std.proofs.Common.{◌≡◌, false}
use Rattle.log_pairs.specs.Odd.{has_sum_within}
use Rattle.log_pairs.proofs.odd.has_sum_inside.Given as goal

-- no error detection ends within the bytes so far
abbrev pub invariant-loop-end : goal.invariant-loop-end
invariant-loop-end l = has_sum_within l.end l.message ≡ false
