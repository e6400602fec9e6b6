use Rattle.std.proofs.Common.{arith}
use Rattle.attempts.proofs.Counting.{none_counted}
use Rattle.attempts.proofs.table.AttemptTable.new.Goals as goal

pub invariant_of-result : goal.invariant_of-result
invariant_of-result c = none_counted c.in_ok-vec.field-0.items c.args.lines c.args.attempt (omega arith) (omega arith) (c.in_ok-vec.ensures.items_if_clones_equal (λ y e. e))
