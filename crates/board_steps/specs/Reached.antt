-- A reached board: what holds of every board that steps lead to (the board).
use Rattle.std.specs.Prelude.{◌≡◌, ℕ, suc, ◌+◌, ◌<◌, ◌≤◌, ◌⊎◌, List, false, length, Option, Some, None}
use Rattle.std.specs.List.{sum_by}
use Rattle.circ_records.specs.Records.{record_at}
use Rattle.circ_records.specs.declared.key.Key.{Key}
use Rattle.circ_records.specs.declared.record.Record.{Record}
use Rattle.sip_answer.specs.declared.answer.Answer.{Answer}
use Rattle.read_set.specs.Maps.{Map}
use Rattle.read_set.specs.Plans.{Planned}
use Rattle.read_set.specs.Replay.{one_at, before, answer_of}
use Rattle.read_set.specs.Settling.{AreTrue, Contents}
use Rattle.read_set.specs.declared.notes.Name.{Name}
use Rattle.read_set.specs.declared.notes.Name.TheVariants.{Base, Made}
use Rattle.read_set.specs.declared.notes.Note.{Note}
use Rattle.version_store.specs.Entries.{Shown}
use Rattle.version_store.specs.declared.entry.Found.TheVariants.{Named}
use Rattle.board_steps.specs.Board.{State, Row, Board, row_at, entry, IsOf, IsCommitted, holder, live_of, written_at, found, entry_over, EachNote, FirstNotes}
use Rattle.board_steps.specs.Board.State.{Waiting, Running, Placing, Done, Checking, Committed}

-- the note of a record under the name of an attempt
pub record Known (rows : ℕ → Row) (n m a : ℕ) (k : Key) (v : Option Record) : Type 0 where
  pub below : m < n
  -- no name has an attempt that its line hasn't begun
  pub begun : a < (rows m).next
  -- one name and key mean one record
  pub same : (e : Shown) → entry (rows m) k ≡ Some e → e.attempt ≡ a → v ≡ written_at e k
  -- the entry stays while its line is in that attempt
  pub stays : suc a ≡ (rows m).next → IsOf (rows m) k a

-- a noted Base has the base's record or absence
abbrev pub NoteBy : Planned → (ℕ → Row) → ℕ → Key → Option Record → Name → Type 0
NoteBy plan rows n k v Base = v ≡ record_at plan.base k
NoteBy plan rows n k v (Made a m) = Known rows n m a k v

abbrev pub NoteHolds : Planned → (ℕ → Row) → ℕ → Note → Type 0
NoteHolds plan rows n x = NoteBy plan rows n x.key x.found x.name

-- Holds now: the noted name is that of the visible entry.
abbrev pub IsNow : (ℕ → Row) → ℕ → Note → Type 0
IsNow rows n x = found rows n x.key ≡ Named x.name

-- Held since a stamp: some line below has changed since, or the first i noted names are those of
-- the visible entries.
abbrev pub Held : (ℕ → Row) → ℕ → List Note → ℕ → ℕ → Type 0
Held rows n notes t i =
    ((m : ℕ) × (m < n) × (t < (rows m).changed)) ⊎ FirstNotes i notes (IsNow rows n)

-- Of each line that is done with a stamp, all names are held since it; of each that is being
-- checked, those that were compared.
pub record EachHeld (b : Board) : Type 0 where
  pub done : (n : ℕ) (notes : List Note) (answer : Option Answer) (t : ℕ) → (row_at b n).state ≡ Done notes answer (Some t) → Held (row_at b) n notes t (length notes)
  pub checking : (w n : ℕ) (notes : List Note) (answer : Option Answer) (t i : ℕ) → (row_at b n).state ≡ Checking w notes answer t i → Held (row_at b) n notes t i

-- the entries and the answer are what the line gives on every map in which its notes are true
pub record Settled (plan : Planned) (n : ℕ) (r : Row) (notes : List Note) (answer : Option Answer) : Type 0 where
  pub map : (M : Map) → AreTrue notes M → (k : Key) → (one_at plan n M).0 k ≡ entry_over (entry r k) k (M k)
  pub answers : (M : Map) → AreTrue notes M → (one_at plan n M).1 ≡ answer

-- each entry of the attempt is what the line gives there
abbrev pub EachPlaced : Planned → ℕ → Row → List Note → Type 0
EachPlaced plan n r notes =
    (k : Key) (e : Shown) → entry r k ≡ Some e → suc e.attempt ≡ r.next → (M : Map)
    → AreTrue notes M → (one_at plan n M).0 k ≡ written_at e k

pub record RunningOk (plan : Planned) (rows : ℕ → Row) (n : ℕ) (r : Row) (notes : List Note) : Type 0 where
  pub noted : EachNote notes (NoteHolds plan rows n)
  pub none_of_its_own : (k : Key) (e : Shown) → entry r k ≡ Some e → suc e.attempt ≡ r.next → ⊥

-- no entry of the line is suspect
abbrev pub NoneSuspect : Row → Type 0
NoneSuspect r = (k : Key) (e : Shown) → entry r k ≡ Some e → e.suspect ≡ false

pub record PlacingOk (plan : Planned) (rows : ℕ → Row) (n : ℕ) (r : Row) (notes : List Note) (last : Option Contents) : Type 0 where
  pub noted : EachNote notes (NoteHolds plan rows n)
  pub placed : EachPlaced plan n r notes
  -- no entry of the attempt is suspect
  pub clear : (k : Key) (e : Shown) → entry r k ≡ Some e → suc e.attempt ≡ r.next → e.suspect ≡ false
  -- there is a version of the last act, of the line, its attempt and its notes
  pub fits : (v : Contents) × (last ≡ Some v) × (v.line ≡ n) × (suc v.attempt ≡ r.next) × (v.reads ≡ notes)

pub record DoneOk (plan : Planned) (rows : ℕ → Row) (clock n : ℕ) (r : Row) (notes : List Note) (answer : Option Answer) (stamp : Option ℕ) : Type 0 where
  pub noted : EachNote notes (NoteHolds plan rows n)
  pub settled : Settled plan n r notes answer
  pub held : (t : ℕ) → stamp ≡ Some t → (t ≤ clock) × Held rows n notes t (length notes)
  pub clear : NoneSuspect r

pub record CheckingOk (plan : Planned) (rows : ℕ → Row) (clock n : ℕ) (r : Row) (notes : List Note) (answer : Option Answer) (stamp compared : ℕ) : Type 0 where
  pub noted : EachNote notes (NoteHolds plan rows n)
  pub settled : Settled plan n r notes answer
  pub past : stamp ≤ clock
  pub held : Held rows n notes stamp compared
  pub clear : NoneSuspect r

-- a committed line has its answer in the replay by one thread, and its entries, put over the
-- records before it, are the records after it
pub record CommittedOk (plan : Planned) (n : ℕ) (r : Row) (answer : Option Answer) : Type 0 where
  pub map : (k : Key) → entry_over (entry r k) k (before plan n k) ≡ before plan (suc n) k
  pub answers : answer ≡ answer_of plan n
  pub clear : NoneSuspect r

abbrev pub StateOk : Planned → (ℕ → Row) → ℕ → ℕ → Row → State → Type 0
StateOk plan rows clock n r Waiting = Unit {0}
StateOk plan rows clock n r (Running worker notes) = RunningOk plan rows n r notes
StateOk plan rows clock n r (Placing worker notes last) = PlacingOk plan rows n r notes last
StateOk plan rows clock n r (Done notes answer stamp) =
    DoneOk plan rows clock n r notes answer stamp
StateOk plan rows clock n r (Checking worker notes answer stamp compared) =
    CheckingOk plan rows clock n r notes answer stamp compared
StateOk plan rows clock n r (Committed answer) = CommittedOk plan n r answer

-- line n of a board, which is r
pub record RowOk (plan : Planned) (rows : ℕ → Row) (clock n : ℕ) (r : Row) : Type 0 where
  -- no entry has an attempt that its line hasn't begun
  pub begun : (k : Key) (e : Shown) → entry r k ≡ Some e → e.attempt < r.next
  pub past : r.changed ≤ clock
  pub state : StateOk plan rows clock n r r.state

-- the committed lines come first; a line before the first has no entry
pub record RowsOk (plan : Planned) (rows : ℕ → Row) (clock committed : ℕ) : Type 0 where
  pub first : (m : ℕ) → plan.first ≤ m → m < plan.first + committed → IsCommitted (rows m).state
  pub only : (m : ℕ) → IsCommitted (rows m).state → m < plan.first + committed
  pub bare : (m : ℕ) → m < plan.first → (k : Key) → entry (rows m) k ≡ None
  pub each : (m : ℕ) → RowOk plan rows clock m (rows m)

abbrev pub live : Board → ℕ
live b = sum_by (λ r. live_of r.state) b.rows

-- The counts balance: what was taken was committed, sent back by a failed check or a stop, or goes
-- on.
abbrev pub Counted : Board → Type 0
Counted b = b.takes ≡ b.committed + b.failed + b.stops + live b

-- a worker has at most one line in hand
abbrev pub Hands : (ℕ → Row) → Type 0
Hands rows = (m q w : ℕ) → holder (rows m).state ≡ Some w → holder (rows q).state ≡ Some w → m ≡ q

pub record Reached (plan : Planned) (b : Board) : Type 0 where
  pub first : b.first ≡ plan.first
  pub all : length b.rows ≡ length plan.readings
  pub rows : RowsOk plan (row_at b) b.clock b.committed
  pub counted : Counted b
  pub hands : Hands (row_at b)
