-- A board on which all lines are committed (the board: a finished run).
use Rattle.std.specs.Prelude.{ℕ}
use Rattle.board_steps.specs.Board.{Board, IsCommitted, IsLine, row_at}

-- all lines are committed
abbrev pub IsWhole : Board → Type 0
IsWhole b = (m : ℕ) → IsLine b m → IsCommitted (row_at b m).state
