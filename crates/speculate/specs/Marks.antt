-- Which lines wait, which need a check, and whose stamp is valid: four sets of positions, and what
-- they say of a board (the board: the choice of a free worker).
use Rattle.std.specs.Prelude.{◌≡◌, ◌≢◌, ℕ, ◌-◌, ◌<◌, ◌≤◌, ◌⊎◌, Bool, true, false, ◌||◌, List, length, replicate, slice_index_or, Some, None}
use Rattle.board_steps.specs.Board.{State, Row, Board, IsLine, row_at}
use Rattle.board_steps.specs.Board.State.{Waiting, Running, Placing, Done, Checking, Committed}
use Rattle.board_lines.specs.declared.reply.Reply.{Reply}
use Rattle.board_lines.specs.declared.reply.Reply.TheVariants as replies
use Rattle.board_steps.specs.declared.TheConstants.{WORKERS_MAX}
use Rattle.journal_table.specs.declared.TheConstants.{LINE_LIMIT}
use Rattle.speculate.specs.declared.ready.Mark.{Mark}
use Rattle.speculate.specs.declared.ready.Mark.TheVariants as marks
use Rattle.speculate.specs.declared.ready.Ready.{Ready}

abbrev pub waits : Mark → Bool
waits marks.Nowhere = false
waits marks.Waiting = true
waits marks.Unchecked = false
waits marks.Checked = false
waits marks.Checking = false

abbrev pub is_unchecked : Mark → Bool
is_unchecked marks.Nowhere = false
is_unchecked marks.Waiting = false
is_unchecked marks.Unchecked = true
is_unchecked marks.Checked = false
is_unchecked marks.Checking = false

abbrev pub is_checked : Mark → Bool
is_checked marks.Nowhere = false
is_checked marks.Waiting = false
is_checked marks.Unchecked = false
is_checked marks.Checked = true
is_checked marks.Checking = false

abbrev pub is_in_check : Mark → Bool
is_in_check marks.Nowhere = false
is_in_check marks.Waiting = false
is_in_check marks.Unchecked = false
is_in_check marks.Checked = false
is_in_check marks.Checking = true

-- whether a position is in a set
abbrev pub has_position : List Bool → ℕ → Bool
has_position flags position = slice_index_or flags position false

-- a position is in the set of its mark and in no other
pub record IsMarked (ready : Ready) (position : ℕ) (mark : Mark) : Type 0 where
  pub in_waiting : has_position ready.waiting position ≡ waits mark
  pub in_unchecked : has_position ready.unchecked position ≡ is_unchecked mark
  pub in_checked : has_position ready.checked position ≡ is_checked mark
  pub in_checking : has_position ready.checking position ≡ is_in_check mark

-- each set is over this number of positions
pub record HasPositions (len : ℕ) (ready : Ready) : Type 0 where
  pub of_waiting : length ready.waiting ≡ len
  pub of_unchecked : length ready.unchecked ≡ len
  pub of_checked : length ready.checked ≡ len
  pub of_checking : length ready.checking ≡ len

-- the sets are over as many positions as before
pub record AreAsLong (old new : Ready) : Type 0 where
  pub as_waiting : length new.waiting ≡ length old.waiting
  pub as_unchecked : length new.unchecked ≡ length old.unchecked
  pub as_checked : length new.checked ≡ length old.checked
  pub as_checking : length new.checking ≡ length old.checking

-- the position is one of each set
pub record IsPosition (ready : Ready) (position : ℕ) : Type 0 where
  pub of_waiting : position < length ready.waiting
  pub of_unchecked : position < length ready.unchecked
  pub of_checked : position < length ready.checked
  pub of_checking : position < length ready.checking
  pub as_many : length ready.checked ≡ length ready.unchecked
  pub few : position < LINE_LIMIT

-- no line below has changed since a stamp
abbrev pub IsStill : (ℕ → Row) → ℕ → ℕ → Type 0
IsStill rows n t = (m : ℕ) → m < n → (rows m).changed ≤ t

-- some line below has changed since a stamp
abbrev pub HasTurned : (ℕ → Row) → ℕ → ℕ → Type 0
HasTurned rows n t = (m : ℕ) × (m < n) × (t < (rows m).changed)

-- The mark of a line by its state: a line that is done is checked while its stamp is valid, else
-- unchecked; a line that is being checked has the mark of that while the stamp of the check is
-- valid.
abbrev pub Fits : (ℕ → Row) → ℕ → State → Mark → Type 0
Fits rows n Waiting mark = mark ≡ marks.Waiting
Fits rows n (Running worker notes) mark = mark ≡ marks.Nowhere
Fits rows n (Placing worker notes last) mark = mark ≡ marks.Nowhere
Fits rows n (Done notes answer None) mark = mark ≡ marks.Unchecked
Fits rows n (Done notes answer (Some t)) mark =
    ((mark ≡ marks.Checked) × IsStill rows n t) ⊎ ((mark ≡ marks.Unchecked) × HasTurned rows n t)
Fits rows n (Checking worker notes answer t i) mark =
    ((mark ≡ marks.Checking) × IsStill rows n t) ⊎ ((mark ≡ marks.Nowhere) × HasTurned rows n t)
Fits rows n (Committed answer) mark = mark ≡ marks.Nowhere

-- The sets say of each line what its state and the changes below it say; and there are 1 to 64
-- workers.
pub record IsReady (b : Board) (ready : Ready) : Type 0 where
  pub positions : HasPositions (length b.rows) ready
  pub few : length b.rows ≤ LINE_LIMIT
  pub workers : (1 ≤ b.workers) × (b.workers ≤ WORKERS_MAX)
  pub each : (n : ℕ) → IsLine b n → (mark : Mark) × Fits (row_at b) n (row_at b n).state mark × IsMarked ready (n - b.first) mark

-- all positions wait
abbrev pub all_waiting : ℕ → Ready
all_waiting len = record {
  waiting = replicate len true;
  unchecked = replicate len false;
  checked = replicate len false;
  checking = replicate len false;
}

-- a position gets a mark, and the others keep theirs
pub record Puts (old new : Ready) (position : ℕ) (mark : Mark) : Type 0 where
  pub here : IsMarked new position mark
  pub off : (q : ℕ) (other : Mark) → q ≢ position → IsMarked old q other → IsMarked new q other
  pub same : AreAsLong old new

-- what a mark is after a change below
abbrev pub lost : Mark → Mark
lost marks.Nowhere = marks.Nowhere
lost marks.Waiting = marks.Waiting
lost marks.Unchecked = marks.Unchecked
lost marks.Checked = marks.Unchecked
lost marks.Checking = marks.Nowhere

-- the stamps of the lines above a position are no longer valid
pub record Loses (old new : Ready) (position : ℕ) : Type 0 where
  pub above : (q : ℕ) (mark : Mark) → position < q → IsMarked old q mark → IsMarked new q (lost mark)
  pub rest : (q : ℕ) (mark : Mark) → q ≤ position → IsMarked old q mark → IsMarked new q mark
  pub same : AreAsLong old new

-- an act of the publication of the line at a position had this reply
abbrev pub Follows : {J : Type 0} → Reply J → Ready → Ready → ℕ → Type 0
Follows replies.Placed old new position = Loses old new position
Follows replies.Lifted old new position = Loses old new position
Follows replies.Whole old new position = Puts old new position marks.Unchecked
Follows _ old new position = new ≡ old

-- the mark of a line whose check is over, by whether the stamp of the check is valid
abbrev pub ended : Bool → Mark
ended true = marks.Checked
ended false = marks.Unchecked

-- the line of a position waits again, and its entries have changed or have not
abbrev pub SendsBack : Ready → Ready → ℕ → Bool → Type 0
SendsBack old new position true =
    (mid : Ready) × Puts old mid position marks.Waiting × Loses mid new position
SendsBack old new position false = Puts old new position marks.Waiting

-- from a position on, what is in the first set goes over to the second; before it nothing changes
pub record GoesOver (first second first_new second_new : List Bool) (from : ℕ) : Type 0 where
  pub out : (q : ℕ) → from ≤ q → has_position first_new q ≡ false
  pub moved : (q : ℕ) → from ≤ q → has_position second_new q ≡ (has_position first q || has_position second q)
  pub first_before : (q : ℕ) → q < from → has_position first_new q ≡ has_position first q
  pub second_before : (q : ℕ) → q < from → has_position second_new q ≡ has_position second q
  pub first_len : length first_new ≡ length first
  pub second_len : length second_new ≡ length second

-- from a position on, a set has nothing; before it nothing changes
pub record GoesOut (old new : List Bool) (from : ℕ) : Type 0 where
  pub out : (q : ℕ) → from ≤ q → has_position new q ≡ false
  pub before : (q : ℕ) → q < from → has_position new q ≡ has_position old q
  pub len : length new ≡ length old
