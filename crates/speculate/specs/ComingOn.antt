-- No idle board: the choice of a free worker where no worker has a line in hand, and what the call
-- that it names leads to (the board:
-- the choice of a free worker).
use Rattle.std.specs.Prelude.{◌≡◌, ℕ, ◌⊎◌, Some}
use Rattle.board_steps.specs.Board.{Board, IsCommitted, holder, row_at}
use Rattle.board_steps.specs.Board.State.{Waiting}
use Rattle.board_steps.specs.Choice.{Choice, StampCounts}
use Rattle.board_steps.specs.Choice.Choice.{ToCommit, ToCheck, ToTake, ToWait, ToEnd}
use Rattle.board_steps.specs.Steps.{Call, Reply, SendsBack}
use Rattle.board_steps.specs.Steps.Call.{Take, Check, Commit}
use Rattle.board_steps.specs.Steps.Reply.{Attempts, ClockSpent}
use Rattle.board_lines.specs.Hands.{HasNoLine}

-- no worker has a line in hand
abbrev pub NoneInHand : Board → Type 0
NoneInHand b = (w : ℕ) → HasNoLine b w

-- the call for line n that a choice names for worker w; none where it waits or ends
abbrev pub Names : Choice → ℕ → ℕ → Call → Type 0
Names (ToCommit line) w n call = (line ≡ n) × (call ≡ Commit n)
Names (ToCheck line) w n call = (line ≡ n) × (call ≡ Check w n)
Names (ToTake line) w n call = (line ≡ n) × (call ≡ Take w n)
Names ToWait w n call = ⊥
Names ToEnd w n call = ⊥

-- A call makes progress on line n: worker w has it in hand; or it is committed; or it is checked,
-- and no line below has changed since; or it waits again, because of a change that the reply names.
abbrev pub ComesOn : Board → ℕ → ℕ → Call → Reply → Board → Type 0
ComesOn old w n call reply new =
    (holder (row_at new n).state ≡ Some w)
    ⊎ (IsCommitted (row_at new n).state
    ⊎ (StampCounts (row_at new) n
    ⊎ (((row_at new n).state ≡ Waiting) × SendsBack old n call reply)))

-- the line has no attempt left, or the clock is at its end
abbrev pub IsSpent : ℕ → Reply → Type 0
IsSpent n reply = (reply ≡ Attempts n) ⊎ (reply ≡ ClockSpent)
