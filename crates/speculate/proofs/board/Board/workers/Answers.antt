use Rattle.std.proofs.Common.{subst}
use Rattle.board_lines.specs.Hands.{AreWorkers}
use Rattle.speculate.proofs.board.Board.workers.Goals as goal

pub returns-clause-hands : goal.returns-clause-hands
returns-clause-hands g c = subst AreWorkers c.self.view_is c.workers.ensures.hands
