-- Which lines that are done need a check, and the choice of a free worker (the board).
use Rattle.std.specs.Prelude.{◌≡◌, ℕ, ◌<◌, ◌≤◌, List, Option, Some}
use Rattle.sip_answer.specs.declared.answer.Answer.{Answer}
use Rattle.read_set.specs.declared.notes.Note.{Note}
use Rattle.board_steps.specs.Board.{Row, Board, IsLine, IsCommitted, row_at}
use Rattle.board_steps.specs.Board.State.{Waiting, Done}
use Rattle.board_steps.specs.Steps.{MayCommit}

-- the line is done, and no line below has changed since its stamp
abbrev pub StampCounts : (ℕ → Row) → ℕ → Type 0
StampCounts rows n =
    (notes : List Note) × (answer : Option Answer) × (t : ℕ)
    × ((rows n).state ≡ Done notes answer (Some t)) × ((m : ℕ) → m < n → (rows m).changed ≤ t)

-- the line is done, and its stamp is missing or some line below has changed since
abbrev pub NeedsCheck : (ℕ → Row) → ℕ → Type 0
NeedsCheck rows n =
    (notes : List Note) × (answer : Option Answer) × (stamp : Option ℕ)
    × ((rows n).state ≡ Done notes answer stamp)
    × ((t : ℕ) → stamp ≡ Some t → (m : ℕ) × (m < n) × (t < (rows m).changed))

-- the line may commit, so it is the least that isn't committed
abbrev pub CanCommit : Board → ℕ → Type 0
CanCommit b n =
    (notes : List Note) × (answer : Option Answer) × (t : ℕ) × MayCommit b n notes answer t

abbrev pub Waits : Board → ℕ → Type 0
Waits b n = IsLine b n × ((row_at b n).state ≡ Waiting)

-- no line fits, or none below this one
abbrev pub NoneFits : (ℕ → Type 0) → Type 0
NoneFits P = (m : ℕ) → P m → ⊥

abbrev pub IsLeast : (ℕ → Type 0) → ℕ → Type 0
IsLeast P n = P n × ((m : ℕ) → m < n → P m → ⊥)

pub data Choice : Type 0 where
  ToCommit : (line : ℕ) → Choice
  ToCheck : (line : ℕ) → Choice
  ToTake : (line : ℕ) → Choice
  ToWait : Choice
  ToEnd : Choice

-- The choice of a free worker: it commits the least uncommitted line where it may; else checks the
-- least line that is done and whose last check is missing or no longer valid; else takes the least
-- line that waits; else waits. It ends where all lines are committed.
abbrev pub IsChoice : Board → Choice → Type 0
IsChoice b ToEnd = (m : ℕ) → IsLine b m → IsCommitted (row_at b m).state
IsChoice b (ToCommit n) = CanCommit b n
IsChoice b (ToCheck n) = NoneFits (CanCommit b) × IsLeast (NeedsCheck (row_at b)) n
IsChoice b (ToTake n) =
    NoneFits (CanCommit b) × NoneFits (NeedsCheck (row_at b)) × IsLeast (Waits b) n
IsChoice b ToWait =
    NoneFits (CanCommit b) × NoneFits (NeedsCheck (row_at b)) × NoneFits (Waits b)
    × ((m : ℕ) × IsLine b m × (IsCommitted (row_at b m).state → ⊥))
