-- A whole run of sip_page: what it asks of the outside, in this order, and the status that it ends
-- with.
use Rattle.std.specs.Prelude.{◌≡◌, ◌++◌, ◌∷◌, ◌⊎◌, ℕ, [], Bool, Err, List, Ok, Result, false, string_bytes, true}
use Rattle.clap.specs.Words.{matches_of, takes}
use Rattle.command_line.specs.Page.{GivesPage, sip_page_line}
use Rattle.command_line.specs.Refusals.{BreakNothing, IsRefusalOf}
use Rattle.command_line.specs.declared.chosen.PageOptions.{PageOptions}
use Rattle.command_line.specs.declared.refusal.Refusal.{Refusal}
use Rattle.command_line.specs.declared.refusal.Refusal.TheVariants as refusals
use Rattle.outside.specs.Events.{Event, Print, Tell}
use Rattle.outside.specs.Reading.{AreRead, StopsReading}
use Rattle.outside.specs.declared.reading.FileStop.{FileStop}
use Rattle.page_run.specs.Sources.{files_of, texts_of}
use Rattle.page_run.specs.Stops.{status_of, stop_text}
use Rattle.page_run.specs.declared.stop.NoPage.{NoPage}
use Rattle.page_run.specs.declared.stop.NoPage.TheVariants as reasons
use Rattle.page_run.specs.declared.stop.PageStop.{PageStop}
use Rattle.page_run.specs.declared.stop.PageStop.TheVariants as stops
use Rattle.page_run.specs.declared.texts.PageTexts.{PageTexts}

-- What stops a run is printed once to standard error, and gives its status.
abbrev pub TellsStop : PageStop → ℕ → List Event → Type 0
TellsStop stop status events =
    (taken : Bool) × (events ≡ Tell (stop_text stop) taken ∷ []) × (status ≡ status_of stop)

-- A text is printed once, whole, and the status is 0; or standard output doesn't take it, and that
-- is a stop.
abbrev pub IsPrinted : List ℕ → ℕ → List Event → Type 0
IsPrinted text status events =
    ((events ≡ Print text true ∷ []) × (status ≡ 0))
    ⊎ ((told : List Event) × (events ≡ Print text false ∷ told)
    × TellsStop stops.Output status told)

-- All files are read, and of exactly their bytes the maker makes this.
abbrev pub HasMade : (PageOptions → PageTexts → Result (List ℕ) NoPage → Type 0) → PageOptions
    → Result (List ℕ) NoPage → List Event → Type 0
HasMade makes o page events =
    (texts : PageTexts) × AreRead (files_of o) (texts_of texts) events × makes o texts page

-- The run stops before anything is printed: a file can't be read, or the maker makes no page of
-- them.
abbrev pub HasStopped : (PageOptions → PageTexts → Result (List ℕ) NoPage → Type 0) → PageOptions
    → PageStop → List Event → Type 0
HasStopped makes o stop events =
    ((file : FileStop) × (stop ≡ stops.File file) × StopsReading (files_of o) file events)
    ⊎ ((no_page : NoPage) × (stop ≡ stops.NoPage no_page) × HasMade makes o (Err no_page) events)

-- The page that the maker makes from the files is printed, or what stops the run; nothing else is
-- asked of the outside.
abbrev pub IsPage : (PageOptions → PageTexts → Result (List ℕ) NoPage → Type 0) → PageOptions → ℕ
    → List Event → Type 0
IsPage makes o status events = (reads : List Event) × (told : List Event) × (events ≡ reads ++ told)
    × (((page : List ℕ) × HasMade makes o (Ok page) reads × IsPrinted page status told)
    ⊎ ((stop : PageStop) × HasStopped makes o stop reads × TellsStop stop status told))

-- Words that give no options: help is printed, else it is said once what is wrong with them.
abbrev pub TellsRefusal : Refusal → ℕ → List Event → Type 0
TellsRefusal (refusals.Help text) status events = IsPrinted (string_bytes text) status events
TellsRefusal (refusals.Words text) status events =
    (taken : Bool) × (events ≡ Tell (string_bytes text) taken ∷ []) × (status ≡ 2)
TellsRefusal refusals.Memory status events = TellsStop (stops.NoPage reasons.Memory) status events

-- The words break nothing of the command line's definition, and this is the page of their options; or
-- they give none: they ask for help or for the version, or break it, or memory ran out, which it did
-- if clap's definition takes them.
abbrev pub IsPageRun : (PageOptions → PageTexts → Result (List ℕ) NoPage → Type 0) → List (List ℕ)
    → ℕ → List Event → Type 0
IsPageRun makes words status events =
    ((o : PageOptions) × BreakNothing sip_page_line words × GivesPage (matches_of sip_page_line words) o
    × IsPage makes o status events)
    ⊎ ((refusal : Refusal) × IsRefusalOf sip_page_line words refusal
    × (takes sip_page_line words ≡ true → refusal ≡ refusals.Memory)
    × TellsRefusal refusal status events)
