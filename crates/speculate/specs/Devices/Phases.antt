-- For proofs alone: a board whose lines are run in the order of the journal, while one of them is
-- run.
use Rattle.std.specs.Prelude.{◌≡◌, ◌≢◌, ℕ, suc, ◌+◌, ◌-◌, ◌<◌, ◌≤◌, ◌⊎◌, List, length, Option, Some}
use Rattle.sip_answer.specs.declared.answer.Answer.{Answer}
use Rattle.read_set.specs.Plans.{Planned}
use Rattle.read_set.specs.Settling.{Contents}
use Rattle.read_set.specs.declared.notes.Note.{Note}
use Rattle.board_steps.specs.Board.{Board, EachNote, IsLine, State, holder, row_at}
use Rattle.board_steps.specs.Board.State.{Waiting, Running, Placing, Done, Checking, Committed}
use Rattle.board_steps.specs.Reached.{IsNow, Reached}
use Rattle.board_steps.specs.Steps.{IsVersion, opening_row}
use Rattle.speculate.specs.Driving.{RunsTo}

-- a line that waits for its first attempt
abbrev pub IsFresh : Board → ℕ → Type 0
IsFresh b line = row_at b line ≡ opening_row 0

-- the lines below this one are committed, and no other is in hand
pub record Stands (plan : Planned) (b : Board) (line : ℕ) : Type 0 where
  pub reached : Reached plan b
  pub worker : 0 < b.workers
  pub commits : plan.first + b.committed ≡ line
  pub others : (m w : ℕ) → m ≢ line → holder (row_at b m).state ≢ Some w

-- this one waits for its first attempt
pub record Waits (plan : Planned) (b : Board) (line : ℕ) : Type 0 where
  pub stands : Stands plan b line
  pub there : IsLine b line
  pub fresh : IsFresh b line

-- an attempt of the line goes on, and what it has noted is so now
pub record GoesOn (plan : Planned) (b : Board) (line : ℕ) (notes : List Note) : Type 0 where
  pub stands : Stands plan b line
  pub there : IsLine b line
  pub now : EachNote notes (IsNow (row_at b) line)

-- it reads
pub record Reads (plan : Planned) (b : Board) (line : ℕ) (notes : List Note) : Type 0 where
  pub goes : GoesOn plan b line notes
  pub state : (row_at b line).state ≡ Running 0 notes

-- a version is to be published, or was by the last act
abbrev pub IsAppearing : State → Contents → Type 0
IsAppearing s v = (s ≡ Running 0 v.reads) ⊎ (s ≡ Placing 0 v.reads (Some v))

-- a version of the line is being published
pub record Appears (plan : Planned) (b : Board) (line : ℕ) (v : Contents) : Type 0 where
  pub goes : GoesOn plan b line v.reads
  pub state : IsAppearing (row_at b line).state v
  pub of_line : v.line ≡ line
  pub attempt : suc v.attempt ≡ (row_at b line).next
  pub settles : IsVersion plan v

-- it is to be checked, or is being checked
abbrev pub IsChecked : State → List Note → ℕ → Type 0
IsChecked (Done notes answer stamp) ns clock = notes ≡ ns
IsChecked (Checking worker notes answer stamp compared) ns clock =
    (worker ≡ 0) × (notes ≡ ns) × (stamp ≡ clock)
IsChecked Waiting ns clock = ⊥
IsChecked (Running worker notes) ns clock = ⊥
IsChecked (Placing worker notes last) ns clock = ⊥
IsChecked (Committed answer) ns clock = ⊥

pub record Checks (plan : Planned) (b : Board) (line : ℕ) (notes : List Note) : Type 0 where
  pub stands : Stands plan b line
  pub there : IsLine b line
  pub state : IsChecked (row_at b line).state notes b.clock

-- what it has noted is so now
pub record Proves (plan : Planned) (b : Board) (line : ℕ) : Type 0 where
  pub notes : List Note
  pub checks : Checks plan b line notes
  pub now : EachNote notes (IsNow (row_at b) line)

-- it is checked
pub record Holds (plan : Planned) (b : Board) (line : ℕ) : Type 0 where
  pub stands : Stands plan b line
  pub there : IsLine b line
  pub notes : List Note
  pub answer : Option Answer
  pub state : (row_at b line).state ≡ Done notes answer (Some b.clock)

-- no other line moves, and nothing is sent back
pub record Spares (old new : Board) (line : ℕ) : Type 0 where
  pub off : (m : ℕ) → m ≢ line → row_at new m ≡ row_at old m
  pub failed : new.failed ≡ old.failed
  pub stops : new.stops ≡ old.stops

-- steps for the line lead from a board to another
pub record Drives (plan : Planned) (old new : Board) (line : ℕ) : Type 0 where
  pub led : RunsTo plan old new
  pub spares : Spares old new line

-- nothing was sent back, and the lines from this one on wait for their first attempt
pub record AreFresh (b : Board) (line : ℕ) : Type 0 where
  pub above : (m : ℕ) → line ≤ m → IsFresh b m
  pub failed : b.failed ≡ 0
  pub stops : b.stops ≡ 0

-- how many notes a check has left, with its end
abbrev pub left_of : State → ℕ
left_of (Done notes answer stamp) = suc (length notes)
left_of (Checking worker notes answer stamp compared) = length notes - compared
left_of Waiting = 0
left_of (Running worker notes) = 0
left_of (Placing worker notes last) = 0
left_of (Committed answer) = 0
