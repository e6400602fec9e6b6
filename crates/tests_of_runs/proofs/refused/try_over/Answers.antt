use Rattle.std.proofs.Common.{arith}
use Rattle.tests_of_runs.proofs.refused.try_over.Goals as goal

-- the board is new
pub halted-requires : goal.halted-requires
halted-requires g c = (c.type_bounds.static-J, (64, omega arith, c.in_ok-board.ensures))
