-- What is written is planned as a list of steps, which are taken in order, up to one that fails.
use Rattle.std.specs.Prelude.{◌≡◌, ◌∷◌, ◌⊎◌, ℕ, [], Bool, Err, List, None, Ok, Option, Some, false, string_bytes, true}
use Rattle.outside.specs.Events.{Create, Event, Exists, MakeFolder, Print, RemoveFolder, Rename, Tell}
use Rattle.outside.specs.Reading.{MayTell}
use Rattle.outside.specs.declared.failure.Failure.{Failure}
use Rattle.outside.specs.declared.reading.FileStop.{FileStop}
use Rattle.why_run.specs.declared.stop.NotExplained.TheVariants as reasons
use Rattle.why_run.specs.declared.stop.WhyStop.{WhyStop}
use Rattle.why_run.specs.declared.stop.WhyStop.TheVariants as stops

-- a step: what is asked with the answer after which the next one comes, and the folder that is removed after any other answer
abbrev pub Planned : Type 0
Planned = Event × Option (List ℕ)

-- It has that answer; whether standard error takes a remark doesn't matter.
abbrev pub GoesOn : Event → Event → Type 0
GoesOn (Tell text taken) event = (now : Bool) × (event ≡ Tell text now)
GoesOn planned event = event ≡ planned

-- A path that fails is named, with the reason that it gave, or memory ran out.
abbrev pub IsOfPath : List ℕ → Failure → WhyStop → Type 0
IsOfPath path failure stop = (file : FileStop) × (stop ≡ stops.File file) × MayTell path failure file

-- A path at which there is something is named, or memory ran out.
abbrev pub IsTaken : List ℕ → WhyStop → Type 0
IsTaken path stop = ((told : _) × (stop ≡ stops.Taken told) × (string_bytes told ≡ path)) ⊎ (stop ≡ stops.NotExplained reasons.Memory)

-- It has another answer, which is this stop.
abbrev pub Fails : Event → Event → WhyStop → Type 0
Fails (Exists path free) event stop = ((event ≡ Exists path (Ok true)) × IsTaken path stop)
    ⊎ ((failure : Failure) × (event ≡ Exists path (Err failure)) × IsOfPath path failure stop)
Fails (MakeFolder path made) event stop = (failure : Failure) × (event ≡ MakeFolder path (Err failure)) × IsOfPath path failure stop
Fails (Create path text made) event stop = (failure : Failure) × (event ≡ Create path text (Err failure)) × IsOfPath path failure stop
Fails (Rename from to named) event stop = (failure : Failure) × (event ≡ Rename from to (Err failure)) × IsOfPath to failure stop
Fails (Print text taken) event stop = (event ≡ Print text false) × (stop ≡ stops.Output)
Fails planned event stop = ⊥

abbrev pub removal : Option (List ℕ) → List Event
removal None = []
removal (Some part) = RemoveFolder part ∷ []

-- All steps are taken, in this order.
abbrev pub AreTaken : List Planned → List Event → Type 0
AreTaken [] [] = Unit {0}
AreTaken (step ∷ steps) (event ∷ events) = GoesOn step.0 event × AreTaken steps events
AreTaken steps events = ⊥

-- Some of them are taken, in this order; then one fails.
abbrev pub StopsTaking : List Planned → WhyStop → List Event → Type 0
StopsTaking (step ∷ steps) stop (event ∷ events) = (GoesOn step.0 event × StopsTaking steps stop events)
    ⊎ (Fails step.0 event stop × (events ≡ removal step.1))
StopsTaking steps stop events = ⊥
