-- The board as a value: the state of each line of the journal, what it has read, and its entries
-- (the board).
use Rattle.std.specs.Prelude.{◌≡◌, ℕ, ◌+◌, ◌-◌, ◌<◌, ◌≤◌, List, Option, Some, None, length, nat_lt, slice_get, slice_index_or, if◌then◌else◌}
use Rattle.std.specs.FinMap.{get, empty}
use Rattle.circ_records.specs.Records.{record_at}
use Rattle.circ_records.specs.declared.key.Key.{Key}
use Rattle.circ_records.specs.declared.record.Record.{Record}
use Rattle.sip_answer.specs.declared.answer.Answer.{Answer}
use Rattle.read_set.specs.Plans.{Planned}
use Rattle.read_set.specs.Settling.{Contents}
use Rattle.read_set.specs.declared.notes.Note.{Note}
use Rattle.version_store.specs.Entries as store
use Rattle.version_store.specs.Entries.{Shown, visible, found_at}
use Rattle.version_store.specs.declared.entry.Found.{Found}

-- The state of a line: which worker has it in hand, what it has noted, the version of the last act
-- of its publication, its answer, the stamp of its last whole check, and how many notes a check has
-- compared.
pub data State : Type 0 where
  Waiting : State
  Running : (worker : ℕ) → (notes : List Note) → State
  Placing : (worker : ℕ) → (notes : List Note) → (last : Option Contents) → State
  Done : (notes : List Note) → (answer : Option Answer) → (stamp : Option ℕ) → State
  Checking : (worker : ℕ) → (notes : List Note) → (answer : Option Answer) → (stamp : ℕ) → (compared : ℕ) → State
  Committed : (answer : Option Answer) → State

-- A line: its state, the number of its next attempt, the clock at the last change of its entries,
-- and its entries.
pub record Row : Type 0 where
  pub state : State
  pub next : ℕ
  pub changed : ℕ
  pub entries : store.Line

-- the lines from the first number on
pub record Board : Type 0 where
  pub first : ℕ
  pub rows : List Row
  pub workers : ℕ
  pub clock : ℕ
  pub committed : ℕ
  pub takes : ℕ
  pub failed : ℕ
  pub stops : ℕ

-- a line that isn't there
abbrev pub blank : Row
blank = record { state = Waiting; next = 0; changed = 0; entries = empty }

-- a line of this number is there
abbrev pub IsLine : Board → ℕ → Type 0
IsLine b n = (b.first ≤ n) × (n < b.first + length b.rows)

-- the line of a number
abbrev pub row_at : Board → ℕ → Row
row_at b n = if nat_lt n b.first then blank else slice_index_or b.rows (n - b.first) blank

-- the entry of a line at a key
abbrev pub entry : Row → Key → Option Shown
entry r k = get r.entries k

-- whether a line's entry at a key is of an attempt
abbrev pub IsOf : Row → Key → ℕ → Type 0
IsOf r k a = (e : Shown) × (entry r k ≡ Some e) × (e.attempt ≡ a)

abbrev pub IsCommitted : State → Type 0
IsCommitted (Committed answer) = Unit {0}
IsCommitted Waiting = ⊥
IsCommitted (Running worker notes) = ⊥
IsCommitted (Placing worker notes last) = ⊥
IsCommitted (Done notes answer stamp) = ⊥
IsCommitted (Checking worker notes answer stamp compared) = ⊥

-- the worker that has the line in hand
abbrev pub holder : State → Option ℕ
holder Waiting = None
holder (Running worker notes) = Some worker
holder (Placing worker notes last) = Some worker
holder (Done notes answer stamp) = None
holder (Checking worker notes answer stamp compared) = Some worker
holder (Committed answer) = None

-- 1 while an attempt goes on
abbrev pub live_of : State → ℕ
live_of Waiting = 0
live_of (Running worker notes) = 1
live_of (Placing worker notes last) = 1
live_of (Done notes answer stamp) = 1
live_of (Checking worker notes answer stamp compared) = 1
live_of (Committed answer) = 0

-- the record of an entry at a key: what the version at its place writes there
abbrev pub written_at : Shown → Key → Option Record
written_at e k = record_at e.contents.writes k

-- the visible entry of a key, for line n
abbrev pub seen_entry : (ℕ → Row) → ℕ → Key → Option (ℕ × Shown)
seen_entry rows n k = visible (λ m. (rows m).entries) n k

-- the name of the visible entry, unless it is suspect
abbrev pub found : (ℕ → Row) → ℕ → Key → Found
found rows n k = found_at (λ m. (rows m).entries) n k

-- the record of the visible entry, else the base's record or its absence
abbrev pub record_of : Key → Option (ℕ × Shown) → Option Record → Option Record
record_of k None base = base
record_of k (Some p) base = written_at p.1 k

abbrev pub value_at : Planned → (ℕ → Row) → ℕ → Key → Option Record
value_at plan rows n k = record_of k (seen_entry rows n k) (record_at plan.base k)

-- a line's entries, put over a map, at a key
abbrev pub entry_over : Option Shown → Key → Option Record → Option Record
entry_over (Some e) k below = written_at e k
entry_over None k below = below

-- what holds of each note
abbrev pub EachNote : List Note → (Note → Type 0) → Type 0
EachNote notes P = (j : ℕ) (x : Note) → slice_get notes j ≡ Some x → P x

-- what holds of the first i notes
abbrev pub FirstNotes : ℕ → List Note → (Note → Type 0) → Type 0
FirstNotes i notes P = (j : ℕ) (x : Note) → j < i → slice_get notes j ≡ Some x → P x
