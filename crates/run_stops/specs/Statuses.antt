-- The status of a run that was stopped, as the page on formats lists it.
use Rattle.std.specs.Prelude.{ℕ, nat_lt, if◌then◌else◌}
use Rattle.replay_run.specs.Faults.{fault_number}
use Rattle.run_stops.specs.declared.stop.RunError.{RunError}
use Rattle.run_stops.specs.declared.stop.RunError.TheVariants as stops

-- a run that was stopped: 2 where the command line or an input is refused (faults 1 to 7), else 3
abbrev pub status_of : RunError → ℕ
status_of (stops.Fault fault) = if nat_lt (fault_number fault) 8 then 2 else 3
status_of (stops.Seen fault what) = 2
status_of (stops.Replaces out input) = 2
status_of (stops.File path failure) = 3
status_of (stops.NoFolder path folder) = 3
status_of stops.Output = 3
