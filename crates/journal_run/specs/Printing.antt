-- What is printed of a journal.
use Rattle.std.specs.Prelude.{◌≡◌, ◌+◌, ◌≤◌, ◌++◌, ◌∷◌, ℕ, [], Bool, List, false, length, true, if◌then◌else◌}
use Rattle.csv_table.specs.Text.{table_text}
use Rattle.journal_table.specs.Journal.{header}
use Rattle.log_pairs.specs.Pairs.{Pair}
use Rattle.log_pairs.specs.Rows.{rows_from}
use Rattle.outside.specs.Events.{Event, Print, Tell}
use Rattle.sip_reader.specs.Texts.{line_number_end}
use Rattle.journal_run.specs.declared.making.Making.{Making}
use Rattle.journal_run.specs.declared.stop.JournalStop.{JournalStop}
use Rattle.journal_run.specs.declared.stop.JournalStop.TheVariants as stops

-- These bytes are printed, each once and in order, and all are taken; besides, only reports are made.
abbrev pub Prints : List ℕ → List Event → Type 0
Prints bytes [] = bytes ≡ []
Prints bytes (Print text true ∷ events) = (more : List ℕ) × (bytes ≡ text ++ more) × Prints more events
Prints bytes (Tell text taken ∷ events) = Prints bytes events
Prints bytes (event ∷ events) = ⊥

-- Standard output doesn't take this text; another stop prints nothing.
abbrev pub FailsToPrint : List ℕ → JournalStop → List Event → Type 0
FailsToPrint text stops.Output events = events ≡ Print text false ∷ []
FailsToPrint text stop events = events ≡ []

-- Of these bytes some are printed, from the first on; then standard output takes no more, or another stop comes.
abbrev pub BreaksOff : List ℕ → JournalStop → List Event → Type 0
BreaksOff bytes stop events = (done : List ℕ) × (text : List ℕ) × (rest : List ℕ) × (printed : List Event) × (failed : List Event)
    × (bytes ≡ done ++ (text ++ rest)) × Prints done printed × FailsToPrint text stop failed × (events ≡ printed ++ failed)

-- the header, where it wasn't printed
abbrev pub head_to_print : Bool → List ℕ
head_to_print begun = if begun then [] else table_text (header ∷ [])

-- what is to be printed of a journal now
abbrev pub to_print : Making → List ℕ
to_print m = head_to_print m.begun ++ table_text (rows_from m.number m.ready.items)

-- what was printed of it: its header, and the rows of these pairs
abbrev pub shown : Bool → ℕ → List Pair → List ℕ
shown begun first taken = if begun then table_text (header ∷ rows_from first taken) else []

-- The pairs that were whole are taken as rows, whose numbers have ten digits at most.
pub record HasPrinted (old new : Making) : Type 0 where
  pub room : old.number + length old.ready.items ≤ line_number_end
  pub begun : new.begun ≡ true
  pub ready : new.ready.items ≡ []
  pub number : new.number ≡ old.number + length old.ready.items
  pub most : new.most ≡ old.most
  pub pairing : new.pairing ≡ old.pairing
  pub exchanges : new.exchanges ≡ old.exchanges
  pub unanswered : new.unanswered ≡ old.unanswered
