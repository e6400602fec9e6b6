-- The result of a committed line.
use Rattle.std.specs.Prelude.{Option, None}
use Rattle.sip_answer.specs.declared.answer.Answer.{Answer}
use Rattle.board_steps.specs.Board.{State}
use Rattle.board_steps.specs.Board.State.{Committed}

-- the answer of a line that is committed
abbrev pub committed_answer : State → Option Answer
committed_answer (Committed answer) = answer
committed_answer _ = None
