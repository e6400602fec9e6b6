use Rattle.std.proofs.Common.{arith}
use Rattle.attempts.proofs.Counting.{waits_not}
use Rattle.attempts.proofs.table.AttemptTable.newest.Goals as goal

pub overflow_sub-result : goal.overflow_sub-result
overflow_sub-result c =
    let r = c.in_ok-row.ensures.numbered in
    r.begun (waits_not c.in_ok-row.row.state c.in_default.not-Waiting)

pub overflow_cast-result : goal.overflow_cast-result
overflow_cast-result c =
    let r = c.in_ok-row.ensures.numbered in
    let s = r.spent in
    let b = r.begun (waits_not c.in_ok-row.row.state c.in_default.not-Waiting) in
    search (arith, s, b)
