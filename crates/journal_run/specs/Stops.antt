-- What is printed of a run that stops, its status, and which messages and numbers stop it.
use Rattle.std.specs.Prelude.{◌≡◌, ◌==◌, if◌then◌else◌, ◌<◌, ◌≤◌, ◌⊎◌, ◌++◌, ℕ, List, codes, decimal, length, string_bytes, ⊤}
use Rattle.journal_table.specs.declared.TheConstants.{CONNECTION_LIMIT, LINE_LIMIT}
use Rattle.log_pairs.specs.Pairs.{Over, Request, Response, Said}
use Rattle.sip_reader.specs.Texts.{line_number_end}
use Rattle.journal_run.specs.declared.making.JournalRows.{JournalRows}
use Rattle.journal_run.specs.declared.place.LogPlace.{LogPlace}
use Rattle.journal_run.specs.declared.stop.JournalStop.{JournalStop}
use Rattle.journal_run.specs.declared.stop.JournalStop.TheVariants as stops
use Rattle.journal_run.specs.declared.stop.MakingError.{MakingError}
use Rattle.journal_run.specs.declared.stop.MakingError.TheVariants as errors

abbrev pub error_text : MakingError → List ℕ
error_text errors.Memory = codes "error: out of memory"
error_text (errors.Refused text) = codes "error: " ++ string_bytes text
error_text (errors.File text) = codes "file: " ++ string_bytes text

abbrev pub stop_text : JournalStop → List ℕ
stop_text (stops.Source error) = error_text error ++ codes "\n"
stop_text (stops.Useless text) = codes "error: " ++ (text.now ++ codes "\n")
stop_text stops.Output = codes "error: standard output takes nothing more\n"

-- 2 where what was read is refused or of no use, else 3
abbrev pub status_of : JournalStop → ℕ
status_of (stops.Source (errors.Refused text)) = 2
status_of (stops.Useless text) = 2
status_of stop = 3

-- a journal of no use stops the run
abbrev pub IsUseless : JournalStop → Type 0
IsUseless (stops.Useless text) = ⊤
IsUseless stop = ⊥

-- what else stops it: lack of memory, standard output, or an error, for this cause
abbrev pub IsFailure : (MakingError → Type 0) → JournalStop → Type 0
IsFailure cause (stops.Useless text) = ⊥
IsFailure cause (stops.Source errors.Memory) = ⊤
IsFailure cause (stops.Source error) = cause error
IsFailure cause stops.Output = ⊤

-- the error has this text, unless memory ran out for it
abbrev pub Tells : List ℕ → MakingError → Type 0
Tells text errors.Memory = ⊤
Tells text (errors.Refused told) = string_bytes told ≡ text
Tells text (errors.File told) = ⊥

-- a file, and the number of a line in it
abbrev pub place_text : LogPlace → List ℕ
place_text p = p.log.now ++ (codes ":" ++ decimal p.line)

-- its connection's name isn't too long
abbrev pub IsNamed : Said → Type 0
IsNamed (Request c m) = length c ≤ CONNECTION_LIMIT
IsNamed (Response c m) = length c ≤ CONNECTION_LIMIT
IsNamed (Over c) = ⊤

-- A connection with this name is refused, for this reason.
abbrev pub IsLongName : List ℕ → List ℕ → Type 0
IsLongName c why = (CONNECTION_LIMIT < length c) × (why ≡ codes "the name of the connection has more than 64 bytes")

-- how many rows there may be: as many as a journal has lines, unless there are several journals
abbrev pub most_of : JournalRows → ℕ
most_of rows = if rows.is_split then 4294967295 else LINE_LIMIT

-- why no more may come than these
abbrev pub too_many : ℕ → List ℕ
too_many most = if most == LINE_LIMIT then codes "more than 1,000,000 requests: --split 1000000 --out DIR writes several journals" else codes "more than 4,294,967,295 requests"

-- A message after this number of requests is refused, for this reason, where there may be this many.
abbrev pub IsRefusal : ℕ → ℕ → Said → List ℕ → Type 0
IsRefusal most asked (Request c m) why = IsLongName c why ⊎ ((most ≤ asked) × (why ≡ too_many most))
IsRefusal most asked (Response c m) why = IsLongName c why
IsRefusal most asked (Over c) why = ⊥

-- This message after this number of requests is refused, and the error says why, after a place.
abbrev pub IsRefused : ℕ → ℕ → Said → MakingError → Type 0
IsRefused most asked x (errors.Refused told) = (place : LogPlace) × (why : List ℕ) × IsRefusal most asked x why × (string_bytes told ≡ place_text place ++ (codes ": " ++ why))
IsRefused most asked x error = ⊥

-- The numbers before this one go past the greatest that a row may have, and the error says so.
abbrev pub IsPastEnd : ℕ → MakingError → Type 0
IsPastEnd after (errors.Refused told) = (line_number_end < after) × (string_bytes told ≡ codes "the number of a row would be past 9999999999")
IsPastEnd after error = ⊥
