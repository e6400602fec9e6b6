use Rattle.std.proofs.Common.{arith}
use Rattle.replay_run.proofs.by_workers.begin_again.Goals as goal

-- the board is new
pub drive_in_order-requires : goal.drive_in_order-requires
drive_in_order-requires g c = (c.type_bounds.static-J, (1, omega arith, c.in_ok-board.ensures))

pub unreachable-requires : goal.unreachable-requires
unreachable-requires g c = c.in-Err.ensures.all c.in_ok-drive_in_order.ensures.all.whole
