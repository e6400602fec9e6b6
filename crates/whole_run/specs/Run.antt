-- A whole run: what it asks of the outside, in this order, and the status that it ends with.
use Rattle.std.specs.Prelude.{◌≡◌, ◌++◌, ◌+◌, ◌∷◌, ◌⊎◌, ℕ, [], Bool, Err, List, None, Ok, Option, Result, Some, codes, decimal, false, string_bytes, true}
use Rattle.outside.specs.Events.{Event, Print, Tell}
use Rattle.outside.specs.Files.{StopsWriting, all_written}
use Rattle.outside.specs.declared.failure.Failure.{Failure}
use Rattle.command_line.specs.declared.chosen.Options.{Options}
use Rattle.replay_run.specs.ByWorkers.{IsByWorkers}
use Rattle.replay_run.specs.declared.fault.Fault.{Fault}
use Rattle.replay_run.specs.declared.fault.Fault.TheVariants as faults
use Rattle.replay_run.specs.declared.inputs.Inputs.{Inputs}
use Rattle.replay_run.specs.declared.inputs.Output.{Output}
use Rattle.result_report.specs.declared.texts.Sizes.{Sizes}
use Rattle.whole_run.specs.Doubting.{TellsDoubts}
use Rattle.whole_run.specs.Reading.{AreGiven, StopsBefore, TellsIn}
use Rattle.run_stops.specs.Seeing.{IsOf}
use Rattle.whole_run.specs.Sources.{places_of}
use Rattle.run_stops.specs.Statuses.{status_of}
use Rattle.whole_run.specs.Statuses.{ended_status}
use Rattle.run_stops.specs.Telling.{stop_text}
use Rattle.run_stops.specs.declared.stop.RunError.{RunError}
use Rattle.run_stops.specs.declared.stop.RunError.TheVariants as stops

-- All files are read, and the replay of exactly these bytes gives this.
abbrev pub IsReplayed : Options → Result Output Fault → List Event → Type 0
IsReplayed o run reads = (i : Inputs) × AreGiven o i reads × IsByWorkers i o.workers run

-- the files of an output, written into the folder that the words name
abbrev pub writes_of : Options → Output → List Event
writes_of o output = all_written (places_of (string_bytes o.out) output)

-- the line that is printed at the end
abbrev pub sizes_line : Sizes → List ℕ
sizes_line s = codes "lines " ++ (decimal (s.answered + s.passed) ++ (codes " answered " ++ (decimal s.answered
    ++ (codes " passed " ++ (decimal s.passed ++ (codes " differences " ++ (decimal s.differences ++ codes "\n")))))))

-- The run ends: it reads, writes all files of the output, and prints its sizes.
abbrev pub HasEnded : Options → Sizes → List Event → Type 0
HasEnded o sizes events =
    (output : Output) × (reads : List Event) × IsReplayed o (Ok output) reads
    × (sizes ≡ output.sizes)
    × (events ≡ reads ++ (writes_of o output ++ Print (sizes_line sizes) true ∷ []))

-- The replay of what was read gives a fault; nothing is written.
abbrev pub IsRefused : Options → RunError → List Event → Type 0
IsRefused o stop events = (fault : Fault) × IsReplayed o (Err fault) events × IsOf fault stop

-- It gives an output, of which a file can't be written.
abbrev pub StopsAt : List ℕ → Output → RunError → List Event → Type 0
StopsAt folder output stop events =
    (path : List ℕ) × (failure : Failure) × (writes : List Event) × (looks : List Event)
    × StopsWriting (places_of folder output) path failure writes
    × TellsIn folder path failure stop looks × (events ≡ writes ++ looks)

-- It gives an output, of which not all files can be written: memory runs out before the first one
-- is touched, or one fails.
abbrev pub IsCutShort : Options → RunError → List Event → Type 0
IsCutShort o stop events =
    (output : Output) × (reads : List Event) × (writes : List Event)
    × IsReplayed o (Ok output) reads
    × (((writes ≡ []) × (stop ≡ stops.Fault faults.Memory))
    ⊎ StopsAt (string_bytes o.out) output stop writes) × (events ≡ reads ++ writes)

-- All are written, and standard output doesn't take the line.
abbrev pub IsUnprinted : Options → RunError → List Event → Type 0
IsUnprinted o stop events =
    (output : Output) × (reads : List Event) × IsReplayed o (Ok output) reads
    × (stop ≡ stops.Output)
    × (events ≡ reads ++ (writes_of o output ++ Print (sizes_line output.sizes) false ∷ []))

-- The run is stopped: before anything is judged, by the replay, in writing or in printing.
abbrev pub HasStopped : Options → RunError → List Event → Type 0
HasStopped o stop events =
    StopsBefore o stop events
    ⊎ (IsRefused o stop events ⊎ (IsCutShort o stop events ⊎ IsUnprinted o stop events))

-- what to do is printed where the words ask for it, and may be printed where they don't
abbrev pub IsAsked : Options → Option Options → Type 0
IsAsked o None = o.explain ≡ false
IsAsked o (Some told) = told ≡ o

-- A run that ends has the status of its differences, and says why its result can't be meant, where
-- it can't. One that is stopped says why, and has the status of that; nothing else is asked of the
-- outside.
abbrev pub IsRun : Options → ℕ → List Event → Type 0
IsRun o status events =
    ((sizes : Sizes) × (ended : List Event) × (told : List Event) × HasEnded o sizes ended
    × TellsDoubts o sizes told × (events ≡ ended ++ told)
    × (status ≡ ended_status sizes.differences))
    ⊎ ((stop : RunError) × (before : List Event) × (asked : Option Options) × (taken : Bool)
    × HasStopped o stop before × IsAsked o asked
    × (events ≡ before ++ Tell (stop_text stop asked) taken ∷ []) × (status ≡ status_of stop))
