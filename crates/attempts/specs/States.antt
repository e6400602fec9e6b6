-- The lines of a journal while they are run: the state of each, and the counts (the board; the
-- counts balance).
use Rattle.std.specs.Prelude.{◌≡◌, ℕ, ◌+◌, ◌-◌, ◌≤◌, ◌^◌, Bool, true, false, List, Option, Some, None, length, replicate, slice_get, option_map, nat_lt, if◌then◌else◌}
use Rattle.std.specs.List.{sum_by, All}
use Rattle.std.specs.Option.{option_and_then}
use Rattle.attempts.specs.declared.counts.Counts.{Counts}
use Rattle.attempts.specs.declared.state.LineState.{LineState}
use Rattle.attempts.specs.declared.state.LineState.TheVariants.{Waiting, Running, Placing, Done, Checking, Committed}
use Rattle.attempts.specs.declared.table.AttemptRow.{AttemptRow}

-- the lines from the first number on, and the counts
pub record States : Type 0 where
  pub first : ℕ
  pub rows : List AttemptRow
  pub counts : Counts

-- an attempt goes on: the line is running, placing, done or being checked
abbrev pub is_live : LineState → Bool
is_live Waiting = false
is_live (Running worker) = true
is_live (Placing worker) = true
is_live (Done stamp) = true
is_live (Checking worker stamp compared) = true
is_live Committed = false

abbrev pub is_committed : LineState → Bool
is_committed Committed = true
is_committed Waiting = false
is_committed (Running worker) = false
is_committed (Placing worker) = false
is_committed (Done stamp) = false
is_committed (Checking worker stamp compared) = false

abbrev pub is_waiting : LineState → Bool
is_waiting Waiting = true
is_waiting (Running worker) = false
is_waiting (Placing worker) = false
is_waiting (Done stamp) = false
is_waiting (Checking worker stamp compared) = false
is_waiting Committed = false

-- The counts balance: what was taken was committed, sent back by a failed check or a stop, or goes
-- on.
abbrev pub Balanced : Counts → Type 0
Balanced c = c.takes ≡ c.commits + c.failed + c.stops + c.live

abbrev pub one_if : Bool → ℕ
one_if true = 1
one_if false = 0

-- how many lines are live, and how many committed
abbrev pub live_among : List AttemptRow → ℕ
live_among rows = sum_by (λ r. one_if (is_live r.state)) rows

abbrev pub committed_among : List AttemptRow → ℕ
committed_among rows = sum_by (λ r. one_if (is_committed r.state)) rows

-- the number of an attempt is that of a u32; a line that doesn't wait has one
pub record IsNumbered (r : AttemptRow) : Type 0 where
  pub spent : r.next ≤ 2 ^ 32
  pub begun : is_waiting r.state ≡ false → 1 ≤ r.next

-- the counts are those of the lines, and balance
pub record IsCounted (rows : List AttemptRow) (c : Counts) : Type 0 where
  pub balance : Balanced c
  pub live : c.live ≡ live_among rows
  pub commits : c.commits ≡ committed_among rows
  -- each take of a line returned another number
  pub once : c.takes ≤ sum_by (λ r. r.next) rows
  pub few : length rows ≤ 2 ^ 32 - 1
  pub numbered : All IsNumbered rows

-- the row of the line of a number
abbrev pub row_at : States → ℕ → Option AttemptRow
row_at t line = if nat_lt line t.first then None else slice_get t.rows (line - t.first)

-- the state of the line of a number
abbrev pub state_at : States → ℕ → Option LineState
state_at t line = option_map (λ r. r.state) (row_at t line)

-- the number of a line's next attempt
abbrev pub next_at : States → ℕ → Option ℕ
next_at t line = option_map (λ r. r.next) (row_at t line)

-- the newest attempt of a line that doesn't wait
abbrev pub newest_of : AttemptRow → Option ℕ
newest_of r = if is_waiting r.state then None else Some (r.next - 1)

abbrev pub newest_at : States → ℕ → Option ℕ
newest_at t line = option_and_then newest_of (row_at t line)

abbrev pub no_counts : Counts
no_counts = record { takes = 0; failed = 0; stops = 0; commits = 0; live = 0 }

-- a number of lines, all waiting, the next attempt of each being this one
abbrev pub all_waiting : ℕ → ℕ → ℕ → States
all_waiting first lines attempt =
    record {
      first = first;
      rows = replicate lines (record { state = Waiting; next = attempt });
      counts = no_counts;
    }
