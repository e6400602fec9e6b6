-- Which line a worker has in hand, at most one, and what the board counts.
use Rattle.std.specs.Prelude.{◌≡◌, ◌≢◌, ℕ, suc, ◌<◌, List, [], Option, Some, None}
use Rattle.attempts.specs.declared.counts.Counts.{Counts}
use Rattle.read_set.specs.Plans.{Planned}
use Rattle.read_set.specs.declared.notes.Note.{Note}
use Rattle.board_steps.specs.Board.{Board, State, row_at, holder}
use Rattle.board_steps.specs.Board.State.{Waiting, Running, Placing, Done, Checking, Committed}
use Rattle.board_steps.specs.Reached.{live}
use Rattle.board_lines.specs.Notes.{Noted, notes_by}
use Rattle.board_lines.specs.declared.hand.Hand.{Hand}

-- the worker has no line in hand
abbrev pub HasNoLine : Board → ℕ → Type 0
HasNoLine b w = (n : ℕ) → holder (row_at b n).state ≢ Some w

-- only workers of the board have a line in hand
abbrev pub AreWorkers : Board → Type 0
AreWorkers b = (n w : ℕ) → holder (row_at b n).state ≡ Some w → w < b.workers

-- the line that the worker has in hand
abbrev pub IsInHand : Board → ℕ → Option ℕ → Type 0
IsInHand b w None = HasNoLine b w
IsInHand b w (Some n) = holder (row_at b n).state ≡ Some w

-- the line that the worker has in hand, with its attempt: the last that the line has begun
abbrev pub IsHand : Board → ℕ → Option Hand → Type 0
IsHand b w None = HasNoLine b w
IsHand b w (Some h) =
    (holder (row_at b h.line).state ≡ Some w) × (suc h.attempt ≡ (row_at b h.line).next)

-- what a line has noted
abbrev pub notes_of : State → List Note
notes_of Waiting = []
notes_of (Running worker notes) = notes
notes_of (Placing worker notes last) = notes
notes_of (Done notes answer stamp) = notes
notes_of (Checking worker notes answer stamp compared) = notes
notes_of (Committed answer) = []

-- what the worker's line in hand has noted
abbrev pub AreNotesOf : Planned → Board → ℕ → Option (List Noted) → Type 0
AreNotesOf plan b w None = HasNoLine b w
AreNotesOf plan b w (Some notes) =
    (n : ℕ) × (holder (row_at b n).state ≡ Some w)
    × (notes_of (row_at b n).state ≡ notes_by plan.base notes)

-- the counts of the board, and how many attempts are unfinished
pub record AreCounts (b : Board) (c : Counts) : Type 0 where
  pub takes : c.takes ≡ b.takes
  pub failed : c.failed ≡ b.failed
  pub stops : c.stops ≡ b.stops
  pub commits : c.commits ≡ b.committed
  pub live : c.live ≡ live b
