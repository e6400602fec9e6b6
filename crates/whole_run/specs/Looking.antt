-- No input is lost: before anything is read, each file is looked up, and no path of the output may
-- lead to a file that is an input.
use Rattle.std.specs.Prelude.{◌≡◌, ◌==◌, ◌&&◌, ◌++◌, ◌∷◌, ◌⊎◌, ℕ, [], Bool, List, None, Option, Some, false, if◌then◌else◌, map, option_map, string_bytes}
use Rattle.std.specs.List.{list_any, position}
use Rattle.outside.specs.Events.{Event, Find}
use Rattle.outside.specs.declared.file_id.FileId.{FileId}
use Rattle.command_line.specs.declared.chosen.Options.{Options}
use Rattle.replay_run.specs.declared.fault.Fault.TheVariants as faults
use Rattle.run_stops.specs.Stops.{TellsLoss}
use Rattle.whole_run.specs.Sources.{files_of, paths_in}
use Rattle.run_stops.specs.declared.stop.InputName.{InputName}
use Rattle.run_stops.specs.declared.stop.InputName.TheVariants as inputs
use Rattle.run_stops.specs.declared.stop.RunError.{RunError}
use Rattle.run_stops.specs.declared.stop.RunError.TheVariants as stops

-- the paths are looked up, in this order, and these files are found
abbrev pub AreFound : List (List ℕ) → List (Option FileId) → List Event → Type 0
AreFound [] [] [] = Unit {0}
AreFound (path ∷ paths) (file ∷ files) (event ∷ events) =
    (event ≡ Find path file) × AreFound paths files events
AreFound paths files events = ⊥

-- one file: the same number on the same device
abbrev pub is_same : FileId → FileId → Bool
is_same a b = (a.device == b.device) && (a.number == b.number)

-- whether this file was found
abbrev pub is_found : FileId → Option FileId → Bool
is_found a None = false
is_found a (Some b) = is_same a b

-- of a file that was found: whether it is among these
abbrev pub is_among : List (Option FileId) → Option FileId → Bool
is_among files None = false
is_among files (Some a) = list_any (λ other. is_found a other) files

-- what the words call the input of this place in the order of reading
abbrev pub input_at : ℕ → InputName
input_at n = if n == 0 then inputs.Policy else (if n == 7 then inputs.Journal else inputs.Base)

-- Inputs and outputs are looked up, and this is the first input that an output would replace.
abbrev pub AreLooked : Options → Option InputName → List Event → Type 0
AreLooked o lost events =
    (read : List (Option FileId)) × (written : List (Option FileId)) × (looks : List Event)
    × (more : List Event)
    × AreFound (map (λ f. f.0) (files_of o)) read looks
    × AreFound (paths_in (string_bytes o.out)) written more
    × (events ≡ looks ++ more) × (lost ≡ option_map input_at (position (is_among written) read))

-- no path of the output leads to an input
abbrev pub AreApart : Options → List Event → Type 0
AreApart o events = AreLooked o None events

-- files are looked up, and nothing else is asked
abbrev pub AreLooks : List Event → Type 0
AreLooks [] = Unit {0}
AreLooks (Find path file ∷ events) = AreLooks events
AreLooks (event ∷ events) = ⊥

-- An output is an input; or memory runs out.
abbrev pub StopsLooking : Options → RunError → List Event → Type 0
StopsLooking o stop events =
    ((input : InputName) × AreLooked o (Some input) events × TellsLoss o input stop)
    ⊎ (AreLooks events × (stop ≡ stops.Fault faults.Memory))
