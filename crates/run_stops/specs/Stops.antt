-- What names a stop: a file that fails, a folder that isn't there, an input that an output would
-- replace.
use Rattle.std.specs.Prelude.{◌≡◌, ℕ, List, string_bytes}
use Rattle.outside.specs.declared.failure.Failure.{Failure}
use Rattle.command_line.specs.declared.chosen.Options.{Options}
use Rattle.replay_run.specs.declared.fault.Fault.TheVariants as faults
use Rattle.run_stops.specs.declared.stop.InputName.{InputName}
use Rattle.run_stops.specs.declared.stop.RunError.{RunError}
use Rattle.run_stops.specs.declared.stop.RunError.TheVariants as stops

-- A file that fails is named by its path, with the reason of the failure, or memory ran out.
abbrev pub MayTell : List ℕ → Failure → RunError → Type 0
MayTell path failure (stops.File told why) = (string_bytes told ≡ path) × (why ≡ failure)
MayTell path failure (stops.Fault faults.Memory) = Unit {0}
MayTell path failure stop = ⊥

-- A folder that isn't there is named by its path, with that of the file that was looked for in it,
-- or memory ran out.
abbrev pub MayTellFolder : List ℕ → List ℕ → RunError → Type 0
MayTellFolder folder path (stops.NoFolder told within) =
    (string_bytes told ≡ path) × (string_bytes within ≡ folder)
MayTellFolder folder path (stops.Fault faults.Memory) = Unit {0}
MayTellFolder folder path stop = ⊥

-- The input that would be replaced is named, by the folder of the output, or memory ran out.
abbrev pub TellsLoss : Options → InputName → RunError → Type 0
TellsLoss o input (stops.Replaces told named) =
    (string_bytes told ≡ string_bytes o.out) × (named ≡ input)
TellsLoss o input (stops.Fault faults.Memory) = Unit {0}
TellsLoss o input stop = ⊥
