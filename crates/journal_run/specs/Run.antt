-- A journal from its first message to the status of the run.
use Rattle.std.specs.Prelude.{◌≡◌, ◌==◌, ◌+◌, ◌≤◌, ◌++◌, ◌∷◌, ◌⊎◌, ℕ, [], Bool, List, Option, false, length, string_bytes, true}
use Rattle.std.specs.List.{AllByRecursion}
use Rattle.csv_table.specs.Text.{table_text}
use Rattle.journal_table.specs.Journal.{header}
use Rattle.log_pairs.specs.Pairs.{Pair, Said, pairs_of}
use Rattle.log_pairs.specs.Rows.{rows_from}
use Rattle.command_line.specs.declared.refusal.Refusal.{Refusal}
use Rattle.command_line.specs.declared.refusal.Refusal.TheVariants as refusals
use Rattle.outside.specs.Events.{Did, Event, Print, Tell}
use Rattle.sip_reader.specs.Texts.{line_number_end}
use Rattle.journal_run.specs.Counts.{counts_line, ended_status, is_too_odd}
use Rattle.journal_run.specs.Found.{found_more}
use Rattle.journal_run.specs.Sums.{Sums, made_sums, sums_of}
use Rattle.journal_run.specs.Making.{Stays}
use Rattle.journal_run.specs.Printing.{BreaksOff, Prints, shown}
use Rattle.journal_run.specs.Stops.{most_of, IsFailure, IsNamed, IsPastEnd, IsRefused, status_of, stop_text}
use Rattle.journal_run.specs.declared.making.JournalRows.{JournalRows}
use Rattle.journal_run.specs.declared.making.Making.{Making}
use Rattle.journal_run.specs.declared.stop.JournalStop.{JournalStop}
use Rattle.journal_run.specs.declared.stop.JournalStop.TheVariants as stops
use Rattle.journal_run.specs.declared.stop.MakingError.{MakingError}
use Rattle.journal_run.specs.declared.stop.MakingError.TheVariants as errors
use Rattle.journal_run.specs.declared.tally.LogTally.{LogTally}

-- the bytes of a journal of these pairs, whose first row has this number
abbrev pub journal_text : ℕ → List Pair → List ℕ
journal_text first pairs = table_text (header ∷ rows_from first pairs)

-- What was found since the start was said, and some of its pairs were printed, and nothing else.
abbrev pub IsUnderWay : JournalRows → Option (List Event) → Option (List Event) → Option (List Said) → Option (List Said) → Making → Type 0
IsUnderWay first begin now start found m = (said : List Said) × (taken : List Pair)
    × (found ≡ found_more said start) × AllByRecursion IsNamed said × Stays first said taken m × Did (Prints (shown m.begun first.number taken)) begin now

-- Nothing is past a limit: no name of a connection, not the number of requests, and no number of a row.
abbrev pub IsWithin : JournalRows → List Said → Type 0
IsWithin first said = AllByRecursion IsNamed said × (length (pairs_of said) ≤ most_of first) × (first.number + length (pairs_of said) ≤ line_number_end)

-- The journal of all that was found is printed, and nothing else, and its pairs are counted.
abbrev pub IsPrinted : JournalRows → Option (List Event) → Option (List Event) → Option (List Said) → Option (List Said) → Making → Type 0
IsPrinted first begin now start found m = (said : List Said)
    × (found ≡ found_more said start) × IsWithin first said × Did (Prints (journal_text first.number (pairs_of said))) begin now
    × (made_sums m ≡ sums_of said)

-- A journal is of use: pairs were found, and not too much is odd; or it is wanted all the same.
abbrev pub IsWanted : Bool → (LogTally → Type 0) → ℕ → Type 0
IsWanted force counts exchanges = (force ≡ true) ⊎ (((exchanges == 0) ≡ false) × ((tally : LogTally) × counts tally × (is_too_odd tally ≡ false)))

-- A journal is of no use only where it isn't wanted all the same, and too much is odd or, as this says, nothing was found. An error that is no lack of
-- memory stops it only for this cause.
abbrev pub HasCause : Bool → (LogTally → Type 0) → Type 0 → (MakingError → Type 0) → JournalStop → Type 0
HasCause force counts nothing cause (stops.Useless why) = (force ≡ false) × (((tally : LogTally) × counts tally × (is_too_odd tally ≡ true)) ⊎ nothing)
HasCause force counts nothing cause stop = IsFailure cause stop

-- All was read, and no pair was found.
abbrev pub FindsNothing : Type 0 → List Said → List Said → Type 0
FindsNothing at_end later said = at_end × (later ≡ []) × (pairs_of said ≡ [])

-- The source answered with this error; or it says why the first message after what was said is refused, or that a row's number would be too great.
abbrev pub IsToBlame : (MakingError → Type 0) → JournalRows → List Said → List Said → MakingError → Type 0
IsToBlame fails first later said error = fails error
    ⊎ (((x : Said) × (rest : List Said) × (later ≡ x ∷ rest) × IsRefused (most_of first) (length (pairs_of said)) x error) ⊎ IsPastEnd (first.number + length (pairs_of said)) error)

-- Of the journal of what was found up to some message a beginning is printed, for this cause.
abbrev pub IsBrokenOff : JournalRows → Bool → (LogTally → Type 0) → (MakingError → Type 0) → Type 0 → Option (List Event) → Option (List Event)
    → Option (List Said) → Option (List Said) → JournalStop → Type 0
IsBrokenOff first force counts fails at_end begin now start found stop = (said : List Said) × (later : List Said)
    × (found ≡ found_more (said ++ later) start) × HasCause force counts (FindsNothing at_end later said) (IsToBlame fails first later said) stop
    × Did (BreaksOff (journal_text first.number (pairs_of said)) stop) begin now

-- What stops a run is reported once; that a journal is of no use together with what was odd, and with counts.
abbrev pub TellsStop : JournalStop → ℕ → List Event → Type 0
TellsStop (stops.Useless why) status events = (before : List Event) × (after : List Event) × (taken : Bool) × Prints [] before × Prints [] after
    × (events ≡ before ++ Tell (stop_text (stops.Useless why)) taken ∷ after) × (status ≡ status_of (stops.Useless why))
TellsStop stop status events = (taken : Bool) × (events ≡ Tell (stop_text stop) taken ∷ []) × (status ≡ status_of stop)

-- The counts of a whole journal are reported, after what was odd, and give its status; or memory runs out for them.
abbrev pub ReportsCounts : (LogTally → Type 0) → Sums → ℕ → List Event → Type 0
ReportsCounts counts sums status events =
    ((tally : LogTally) × (odd : List ℕ) × (taken : Bool) × counts tally × (events ≡ Tell (odd ++ counts_line tally sums) taken ∷ []) × (status ≡ ended_status tally sums))
    ⊎ TellsStop (stops.Source errors.Memory) status events

-- A journal of use is printed, within its limits: that of the pairs of all that was found, whole and nothing else, and its counts are reported. Or the run stops, for a
-- cause: a beginning of the journal of what was found up to some message is printed, nothing else, and then it is reported what stops the run.
abbrev pub IsJournal : JournalRows → Bool → (LogTally → Type 0) → (MakingError → Type 0) → Type 0 → Option (List Said) → Option (List Said) → ℕ → List Event → Type 0
IsJournal first force counts fails at_end start found status events =
    ((said : List Said) × (printed : List Event) × (told : List Event) × (found ≡ found_more said start) × at_end
    × IsWithin first said × IsWanted force counts (sums_of said).exchanges × Prints (journal_text first.number (pairs_of said)) printed × ReportsCounts counts (sums_of said) status told
    × (events ≡ printed ++ told))
    ⊎ ((said : List Said) × (later : List Said) × (stop : JournalStop) × (printed : List Event) × (told : List Event)
    × (found ≡ found_more (said ++ later) start) × HasCause force counts (FindsNothing at_end later said) (IsToBlame fails first later said) stop
    × BreaksOff (journal_text first.number (pairs_of said)) stop printed × TellsStop stop status told × (events ≡ printed ++ told))

-- A text is printed once, whole, and the status is 0; or standard output doesn't take it, and that is a stop.
abbrev pub IsText : List ℕ → ℕ → List Event → Type 0
IsText text status events =
    ((events ≡ Print text true ∷ []) × (status ≡ 0))
    ⊎ ((told : List Event) × (events ≡ Print text false ∷ told) × TellsStop stops.Output status told)

-- Words that give no options: help is printed, else it is said once what is wrong with them.
abbrev pub TellsRefusal : Refusal → ℕ → List Event → Type 0
TellsRefusal (refusals.Help text) status events = IsText (string_bytes text) status events
TellsRefusal (refusals.Words text) status events = (taken : Bool) × (events ≡ Tell (string_bytes text) taken ∷ []) × (status ≡ 2)
TellsRefusal refusals.Memory status events = TellsStop (stops.Source errors.Memory) status events
