-- How files are read: each once, in their order, up to one that fails.
use Rattle.std.specs.Prelude.{◌≡◌, ◌∷◌, ◌⊎◌, ℕ, [], Bool, Err, List, Ok, Result, false, string_bytes, true}
use Rattle.outside.specs.Events.{Event, Read}
use Rattle.outside.specs.declared.failure.Failure.{Failure}
use Rattle.outside.specs.declared.failure.Failure.TheVariants.{Missing}
use Rattle.outside.specs.declared.reading.IfMissing.{IfMissing}
use Rattle.outside.specs.declared.reading.IfMissing.TheVariants.{Empty}
use Rattle.outside.specs.declared.reading.FileStop.{FileStop}
use Rattle.outside.specs.declared.reading.FileStop.TheVariants as stops

-- whether the failure is that the file is missing, where that is allowed
abbrev pub lacks : IfMissing → Failure → Bool
lacks Empty Missing = true
lacks missing failure = false

-- what a read returned, and the bytes that it counts as: none if the file is missing, where that is
-- allowed
abbrev pub IsAnswer : IfMissing → Result (List ℕ) Failure → List ℕ → Type 0
IsAnswer missing (Ok bytes) text = bytes ≡ text
IsAnswer missing (Err failure) text = (lacks missing failure ≡ true) × (text ≡ [])

-- These files are read, each once, in this order, and these are their bytes.
abbrev pub AreRead : List (List ℕ × IfMissing) → List (List ℕ) → List Event → Type 0
AreRead [] [] [] = Unit {0}
AreRead (file ∷ files) (text ∷ texts) (Read path answer ∷ events) =
    (path ≡ file.0) × IsAnswer file.1 answer text × AreRead files texts events
AreRead files texts events = ⊥

-- The error has the file's path and its failure, or it is out of memory.
abbrev pub MayTell : List ℕ → Failure → FileStop → Type 0
MayTell path failure (stops.File told why) = (string_bytes told ≡ path) × (why ≡ failure)
MayTell path failure stops.Memory = Unit {0}

-- The first of these files are read, in this order; then one fails, with this error, or memory runs
-- out.
abbrev pub StopsReading : List (List ℕ × IfMissing) → FileStop → List Event → Type 0
StopsReading files stop [] = stop ≡ stops.Memory
StopsReading (file ∷ files) stop (Read path (Ok bytes) ∷ events) =
    (path ≡ file.0) × StopsReading files stop events
StopsReading (file ∷ files) stop (Read path (Err failure) ∷ events) = (path ≡ file.0)
    × (((lacks file.1 failure ≡ true) × StopsReading files stop events)
    ⊎ ((lacks file.1 failure ≡ false) × (events ≡ []) × MayTell path failure stop))
StopsReading files stop events = ⊥
