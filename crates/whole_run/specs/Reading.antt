-- What a run reads: which files, in which order, and what they give it.
use Rattle.std.specs.Prelude.{◌≡◌, ◌++◌, ◌∷◌, ◌⊎◌, ℕ, [], Bool, Err, List, None, Ok, Option, Result, Some, codes, false, string_bytes, true}
use Rattle.outside.specs.Events.{Event, Find, Read}
use Rattle.outside.specs.Files.{in_folder}
use Rattle.outside.specs.declared.failure.Failure.{Failure}
use Rattle.outside.specs.declared.failure.Failure.TheVariants.{Missing}
use Rattle.outside.specs.declared.file_id.FileId.{FileId}
use Rattle.command_line.specs.declared.chosen.Options.{Options}
use Rattle.read_set.specs.Plans.{way_of}
use Rattle.replay_run.specs.declared.fault.Fault.TheVariants as faults
use Rattle.replay_run.specs.declared.inputs.Inputs.{Inputs}
use Rattle.run_stops.specs.Stops.{MayTell, MayTellFolder}
use Rattle.whole_run.specs.Looking.{AreApart, StopsLooking}
use Rattle.whole_run.specs.Sources.{files_of}
use Rattle.run_stops.specs.declared.stop.RunError.{RunError}
use Rattle.run_stops.specs.declared.stop.RunError.TheVariants as stops

-- what a file that may be missing answers, and what is taken for its bytes
abbrev pub IsAbsent : Result (List ℕ) Failure → List ℕ → Type 0
IsAbsent answer text = (answer ≡ Ok text) ⊎ ((answer ≡ Err Missing) × (text ≡ []))

-- The inputs are what these files answer, read once each, in this order, and are replayed in the
-- way that is asked for.
abbrev pub AreRead : Options → Inputs → List Event → Type 0
AreRead o i events =
    (holds : Result (List ℕ) Failure) × IsAbsent holds i.tables.holds.items
    × (i.way ≡ way_of o.as_recorded) × (events ≡
    Read (string_bytes o.policy) (Ok i.policy.items)
    ∷ Read (in_folder (string_bytes o.base) (codes "patrons.csv")) (Ok i.tables.patrons.items)
    ∷ Read (in_folder (string_bytes o.base) (codes "items.csv")) (Ok i.tables.items.items)
    ∷ Read (in_folder (string_bytes o.base) (codes "loans.csv")) (Ok i.tables.loans.items)
    ∷ Read (in_folder (string_bytes o.base) (codes "fees.csv")) (Ok i.tables.fees.items)
    ∷ Read (in_folder (string_bytes o.base) (codes "closed.csv")) (Ok i.tables.closed.items)
    ∷ Read (in_folder (string_bytes o.base) (codes "holds.csv")) holds
    ∷ Read (string_bytes o.journal) (Ok i.journal.items) ∷ [])

-- The same, after no file of the output was found to be one of them.
abbrev pub AreGiven : Options → Inputs → List Event → Type 0
AreGiven o i events =
    (looks : List Event) × (reads : List Event) × AreApart o looks × AreRead o i reads
    × (events ≡ looks ++ reads)

-- what is said of a file that is missing, by what its folder is found to be
abbrev pub TellsMissing : List ℕ → List ℕ → Option FileId → RunError → Type 0
TellsMissing folder path None stop = MayTellFolder folder path stop
TellsMissing folder path (Some found) stop = MayTell path Missing stop

abbrev pub is_missing : Failure → Bool
is_missing Missing = true
is_missing failure = false

-- A file of a folder fails, and it is named. Of one that is missing the folder is looked up first:
-- it may be what is missing.
abbrev pub TellsIn : List ℕ → List ℕ → Failure → RunError → List Event → Type 0
TellsIn folder path failure stop events =
    ((is_missing failure ≡ true)
    × ((found : Option FileId) × (events ≡ Find folder found ∷ [])
    × TellsMissing folder path found stop))
    ⊎ ((is_missing failure ≡ false) × (events ≡ []) × MayTell path failure stop)

-- A file fails, and it is named; of a folder's file as said above.
abbrev pub TellsFile : List ℕ → Failure → RunError → List Event → Type 0
TellsFile path failure stop events = ((events ≡ []) × MayTell path failure stop)
    ⊎ ((folder : List ℕ) × (name : List ℕ) × (path ≡ in_folder folder name)
    × TellsIn folder path failure stop events)

-- Of these files some are read, in this order; then one fails, or memory runs out.
abbrev pub StopsReading : List (List ℕ × Bool) → List Event → RunError → Type 0
StopsReading files [] stop = stop ≡ stops.Fault faults.Memory
StopsReading (file ∷ files) (Read path (Ok bytes) ∷ events) stop =
    (path ≡ file.0) × StopsReading files events stop
StopsReading (file ∷ files) (Read path (Err failure) ∷ events) stop = (path ≡ file.0)
    × (TellsFile path failure stop events
    ⊎ ((file.1 ≡ true) × (failure ≡ Missing) × StopsReading files events stop))
StopsReading files events stop = ⊥

-- A run that stops before anything is judged: an output is an input, or a file can't be read.
abbrev pub StopsBefore : Options → RunError → List Event → Type 0
StopsBefore o stop events = StopsLooking o stop events
    ⊎ ((looks : List Event) × (reads : List Event) × AreApart o looks
    × StopsReading (files_of o) reads stop × (events ≡ looks ++ reads))
