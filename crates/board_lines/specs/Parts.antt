-- The fields of a board, as data, and the board that they represent.
use denote.Ref.{Bor}
use Rattle.std.specs.Prelude.{◌≡◌, ℕ, zero, suc, ◌+◌, ◌-◌, ◌<◌, ◌≤◌, ◌⊎◌, ◌↔◌, List, [], ◌∷◌, length, slice_get, slice_index_or, Option, Some, None, option_map}
use Rattle.circ_records.specs.Records.{Entries}
use Rattle.sip_answer.specs.declared.answer.Answer.{Answer}
use Rattle.read_set.specs.Plans.{Planned}
use Rattle.read_set.specs.Settling.{Contents}
use Rattle.read_set.specs.declared.notes.Note.{Note}
use Rattle.attempts.specs.Moves.{no_row}
use Rattle.attempts.specs.declared.table.AttemptRow as attempt
use Rattle.attempts.specs.States.{States}
use Rattle.attempts.specs.declared.state.LineState.{LineState}
use Rattle.attempts.specs.declared.state.LineState.TheVariants as states
use Rattle.version_store.specs.Entries as store
use Rattle.board_steps.specs.Board as steps
use Rattle.board_steps.specs.Board.{Board, State, IsLine, row_at, holder}
use Rattle.board_steps.specs.Board.State.{Waiting, Running, Placing, Done, Checking, Committed}
use Rattle.board_steps.specs.Reached.{Reached}
use Rattle.board_lines.specs.Notes.{Noted, notes_by, contents_at}
use Rattle.board_lines.specs.Courses.{IsUnderWay}
use Rattle.board_lines.specs.declared.row.LineProgress.{LineProgress}
use Rattle.board_lines.specs.declared.row.LineRow.{LineRow}

-- what the board has of a line besides its state and its entries
pub record Kept : Type 0 where
  pub notes : List Noted
  pub contents : Option Contents
  pub course : LineProgress
  pub changed : ℕ

abbrev pub row_shown : {J : Type 0} → LineRow J → Kept
row_shown r =
    record {
      notes = r.notes;
      contents = option_map contents_at r.version;
      course = r.course;
      changed = r.changed;
    }

abbrev pub no_notes : Kept
no_notes = record { notes = []; contents = None; course = record { placed = 0 }; changed = 0 }

pub record Parts : Type 0 where
  pub states : States
  pub store : store.Store
  pub rows : List Kept
  pub hands : List (Option ℕ)
  pub clock : ℕ
  pub latest : ℕ

-- the answer of the version that was published
abbrev pub answer_by : Option Contents → Option Answer
answer_by None = None
answer_by (Some contents) = contents.answer

-- the state, with the notes and the version of its row
abbrev pub state_of : LineState → List Note → Option Contents → State
state_of states.Waiting notes contents = Waiting
state_of (states.Running w) notes contents = Running w notes
state_of (states.Placing w) notes contents = Placing w notes contents
state_of (states.Done stamp) notes contents = Done notes (answer_by contents) stamp
state_of (states.Checking w t i) notes contents = Checking w notes (answer_by contents) t i
state_of states.Committed notes contents = Committed (answer_by contents)

-- a line, from its state, its row and its entries
abbrev pub row_with : Entries → attempt.AttemptRow → Kept → store.Line → steps.Row
row_with base s k l =
    record {
      state = state_of s.state (notes_by base k.notes) k.contents;
      next = s.next;
      changed = k.changed;
      entries = l;
    }

-- the line at a position
abbrev pub row_by : Entries → Parts → ℕ → steps.Row
row_by base a p =
    row_with base (slice_index_or a.states.rows p no_row) (slice_index_or a.rows p no_notes)
    (slice_index_or a.store.lines p store.no_entries)

-- the first values of a function, from 0 on
abbrev pub first_of : {A : Type 0} → (ℕ → A) → ℕ → List A
first_of f zero = []
first_of f (suc n) = f zero ∷ first_of (λ i. f (suc i)) n

abbrev pub board_of : Entries → Parts → Board
board_of base a = record {
  first = a.states.first;
  rows = first_of (row_by base a) (length a.rows);
  workers = length a.hands;
  clock = a.clock;
  committed = a.states.counts.commits;
  takes = a.states.counts.takes;
  failed = a.states.counts.failed;
  stops = a.states.counts.stops;
}

-- the row of a line
abbrev pub kept_at : Parts → ℕ → Kept
kept_at a n = slice_index_or a.rows (n - a.states.first) no_notes

-- each hand holds the line that its worker has
abbrev pub HandsHold : List (Option ℕ) → (ℕ → steps.Row) → Type 0
HandsHold hands rows =
    (w n : ℕ) → (slice_get hands w ≡ Some (Some n)) ↔ (holder (rows n).state ≡ Some w)

-- what always holds of the fields
pub record IsKept (plan : Planned) (a : Parts) : Type 0 where
  pub reached : Reached plan (board_of plan.base a)
  pub same_first : a.store.first ≡ a.states.first
  pub all_states : length a.states.rows ≡ length a.rows
  pub all_entries : length a.store.lines ≡ length a.rows
  pub hand : HandsHold a.hands (row_at (board_of plan.base a))
  -- a line that is being published has the version of its last act, and the course says how far
  -- that has come
  pub under_way : (n w : ℕ) (notes : List Note) (last : Option Contents) → (row_at (board_of plan.base a) n).state ≡ Placing w notes last
      → IsUnderWay n (row_at (board_of plan.base a) n) notes last (kept_at a n).course
  -- the greatest clock at which a committed line changed
  pub below : (m : ℕ) → m < plan.first + a.states.counts.commits → (row_at (board_of plan.base a) m).changed ≤ a.latest
  pub attained : (a.latest ≡ 0) ⊎ ((m : ℕ) × (m < plan.first + a.states.counts.commits) × (a.latest ≡ (row_at (board_of plan.base a) m).changed))

-- a line, from its state and its row, on a board that steps lead to
pub record Stands (plan : Planned) (b : Board) (n : ℕ) (s : LineState) (k : Kept) : Type 0 where
  pub reached : Reached plan b
  pub there : IsLine b n
  pub state : (row_at b n).state ≡ state_of s (notes_by plan.base k.notes) k.contents
  pub under_way : (w : ℕ) (notes : List Note) (last : Option Contents) → (row_at b n).state ≡ Placing w notes last → IsUnderWay n (row_at b n) notes last k.course

-- the state and the row of a line; None if there is no such line
abbrev pub IsRow : {J : Type 0} → Planned → Board → ℕ → Option (LineState × Bor (LineRow J))
    → Type 0
IsRow plan b n None = IsLine b n → ⊥
IsRow plan b n (Some p) = Stands plan b n p.0 (row_shown p.1.now)
