-- What each call of the board does to the state of its line and to the counts.
use Rattle.std.specs.Prelude.{ℕ, ◌+◌, ◌-◌, slice_set, slice_index_or}
use Rattle.attempts.specs.declared.counts.Counts.{Counts}
use Rattle.attempts.specs.declared.state.LineState.{LineState}
use Rattle.attempts.specs.declared.state.LineState.TheVariants.{Waiting, Running, Committed}
use Rattle.attempts.specs.declared.table.AttemptRow.{AttemptRow}
use Rattle.attempts.specs.States.{States}

-- a row past the last
abbrev pub no_row : AttemptRow
no_row = record { state = Waiting; next = 0 }

-- the row of a line that is there
abbrev pub row_of : States → ℕ → AttemptRow
row_of t line = slice_index_or t.rows (line - t.first) no_row

-- another row for a line, and other counts; no other line changes
abbrev pub with_row : States → ℕ → AttemptRow → Counts → States
with_row t line row counts =
    record { first = t.first; rows = slice_set t.rows (line - t.first) row; counts = counts }

-- the line is in another state, in the same attempt
abbrev pub moved : States → ℕ → LineState → States
moved t line state = with_row t line (record (row_of t line) { state = state }) t.counts

-- a worker takes the line: it is running with the next attempt
abbrev pub taken : States → ℕ → ℕ → States
taken t line worker =
    with_row t line (record { state = Running worker; next = (row_of t line).next + 1 })
    (record t.counts { takes = t.counts.takes + 1; live = t.counts.live + 1 })

-- a look of the line met a suspect entry: it waits again
abbrev pub stopped : States → ℕ → States
stopped t line =
    with_row t line (record (row_of t line) { state = Waiting })
    (record t.counts { stops = t.counts.stops + 1; live = t.counts.live - 1 })

-- a check of the line found that a noted name had changed: it waits again
abbrev pub failed : States → ℕ → States
failed t line =
    with_row t line (record (row_of t line) { state = Waiting })
    (record t.counts { failed = t.counts.failed + 1; live = t.counts.live - 1 })

-- the line is committed
abbrev pub committed : States → ℕ → States
committed t line =
    with_row t line (record (row_of t line) { state = Committed })
    (record t.counts { commits = t.counts.commits + 1; live = t.counts.live - 1 })
