-- The status of a run that wasn't stopped, as the page on formats lists it.
use Rattle.std.specs.Prelude.{ℕ, nat_lt, if◌then◌else◌}

-- a run that ended without a fault: 1 where some recorded responses differ, else 0
abbrev pub ended_status : ℕ → ℕ
ended_status differences = if nat_lt 0 differences then 1 else 0
