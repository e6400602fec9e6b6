-- What a board on which all lines are committed gives besides the replay's answers and records.
use Rattle.std.specs.Prelude.{ℕ, ◌-◌, List, map}
use Rattle.std.specs.FinMap as fin
use Rattle.circ_records.specs.declared.key.Key.{Key}
use Rattle.board_steps.specs.Board.{Board, row_at}

-- the attempt of a committed line that counts: the last that it began
abbrev pub attempt_on : Board → ℕ → ℕ
attempt_on board line = (row_at board line).next - 1

-- the keys at which a line left a record, rising, each with the attempt that left it
abbrev pub entered_on : Board → ℕ → List (Key × ℕ)
entered_on board line = map (λ e. (e.0, e.1.attempt)) (fin.entries (row_at board line).entries)
