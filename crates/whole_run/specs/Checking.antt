-- A check of the inputs: what it asks of the outside, what it prints, and the status that it ends
-- with. No file is written: nothing but looks, reads and one text is asked for.
use Rattle.std.specs.Prelude.{◌≡◌, ◌++◌, ◌∷◌, ◌⊎◌, ℕ, [], Bool, Err, List, None, Ok, Option, Result, Some, codes, decimal, false, length, map, take, true}
use Rattle.std.specs.List.{slice_get}
use Rattle.outside.specs.Events.{Event, Print, Tell}
use Rattle.command_line.specs.declared.chosen.Options.{Options}
use Rattle.circ_policy.specs.Reading.{Fails, policy_of}
use Rattle.circ_policy.specs.Terms.{Terms}
use Rattle.circ_policy.specs.declared.error.PolicyError.{PolicyError}
use Rattle.schema.specs.Texts.{Texts, texts_of}
use Rattle.journal_table.specs.Entry.{Entry}
use Rattle.journal_table.specs.Journal.{journal_of}
use Rattle.journal_table.specs.declared.error.JournalError.{JournalError}
use Rattle.replay_run.specs.Faults.{base_fault, journal_fault, policy_fault}
use Rattle.read_set.specs.declared.way.Way.{Way}
use Rattle.replay_run.specs.Judgements.{Accepted, Refused, bad_base, bad_journal, bad_policy, first_read, judgement_on}
use Rattle.replay_run.specs.declared.fault.Fault.{Fault}
use Rattle.replay_run.specs.declared.fault.Fault.TheVariants as faults
use Rattle.replay_run.specs.declared.inputs.Inputs.{Inputs}
use Rattle.record_tables.specs.AllBroken.{broken_rules}
use Rattle.record_tables.specs.Sizes.{AreSizes}
use Rattle.record_tables.specs.declared.sizes.TableSizes.{TableSizes}
use Rattle.whole_run.specs.Reading.{AreGiven, StopsBefore}
use Rattle.whole_run.specs.Run.{IsAsked}
use Rattle.run_stops.specs.Seeing.{IsOf}
use Rattle.run_stops.specs.Statuses.{status_of}
use Rattle.run_stops.specs.Telling.{remedy_of, stop_text}
use Rattle.run_stops.specs.declared.stop.RunError.{RunError}
use Rattle.run_stops.specs.declared.stop.RunError.TheVariants as stops

-- the fault of a journal, if it has one
abbrev pub faults_of_journal : Result (List Entry) JournalError → List Fault
faults_of_journal (Ok lines) = []
faults_of_journal (Err error) = journal_fault error ∷ []

-- All faults of tables and a journal, under a policy: those of the tables, and after them that of
-- the journal.
abbrev pub faults_of : Terms → Texts → Result (List Entry) JournalError → List Fault
faults_of policy texts journal =
    map base_fault (broken_rules policy texts (first_read journal)) ++ faults_of_journal journal

-- what a run does with the same: it accepts them where there is no fault, and else refuses them for
-- the first one
abbrev pub IsRefusedFor : Result Accepted Refused → Option Fault → Type 0
IsRefusedFor (Ok accepted) first = first ≡ None
IsRefusedFor (Err (bad_policy refusal)) first = ⊥
IsRefusedFor (Err (bad_base error)) first = first ≡ Some (base_fault error)
IsRefusedFor (Err (bad_journal error)) first = first ≡ Some (journal_fault error)

abbrev pub FirstIsRefused : Type 0
FirstIsRefused =
    (way : Way) (bytes : List ℕ) (policy : Terms) (texts : Texts) (journal : List ℕ)
    → policy_of bytes ≡ Ok policy
    → IsRefusedFor (judgement_on way bytes texts journal)
    (slice_get (faults_of policy texts (journal_of journal)) 0)

-- how many faults are listed at most
abbrev pub listed : List Fault → List Fault
listed = take 100

-- a line for each of these faults, in the form of a remedy: where it is, the values that are seen
-- there, and what to do
abbrev pub AreLines : Options → List Fault → List ℕ → Type 0
AreLines o [] text = text ≡ []
AreLines o (fault ∷ rest) text =
    (stop : RunError) × (more : List ℕ) × IsOf fault stop × AreLines o rest more
    × (text ≡ remedy_of o stop ++ more)

-- the last line, where there are faults: how many, and how many of them are listed
abbrev pub count_line : ℕ → ℕ → List ℕ
count_line all few = codes "broken " ++ (decimal all ++ (codes " listed " ++ (decimal few ++ codes "\n")))

-- the line where there are none: what was read
abbrev pub checked_line : TableSizes → ℕ → List ℕ
checked_line s lines = codes "checked patrons " ++ (decimal s.patrons ++ (codes " items " ++ (decimal s.items ++ (codes " loans " ++ (decimal s.loans
    ++ (codes " fees " ++ (decimal s.fees ++ (codes " closed " ++ (decimal s.closed ++ (codes " holds " ++ (decimal s.holds
    ++ (codes " lines " ++ (decimal lines ++ codes "\n")))))))))))))

-- how many lines a journal has
abbrev pub lines_in : Result (List Entry) JournalError → ℕ
lines_in (Ok lines) = length lines
lines_in (Err error) = 0

-- the text of a check, by the faults that there are, the sizes of the tables and the number of
-- lines
abbrev pub IsText : Options → List Fault → TableSizes → ℕ → List ℕ → Type 0
IsText o [] sizes lines text = text ≡ checked_line sizes lines
IsText o (fault ∷ rest) sizes lines text = (told : List ℕ) × AreLines o (listed (fault ∷ rest)) told
    × (text ≡ told ++ count_line (length (fault ∷ rest)) (length (listed (fault ∷ rest))))

-- 2 where there are faults, else 0
abbrev pub check_status : List Fault → ℕ
check_status [] = 0
check_status (fault ∷ rest) = 2

-- All files are read as a run reads them, and this is the text of exactly these bytes, whose faults
-- are these.
abbrev pub IsChecked : Options → List Fault → List ℕ → List Event → Type 0
IsChecked o faults text reads =
    (i : Inputs) × (policy : Terms) × (sizes : TableSizes) × AreGiven o i reads
    × (policy_of i.policy.items ≡ Ok policy)
    × (faults ≡ faults_of policy (texts_of i.tables) (journal_of i.journal.items))
    × AreSizes (texts_of i.tables) sizes
    × IsText o faults sizes (lines_in (journal_of i.journal.items)) text

-- The check ends: its text is printed.
abbrev pub EndsChecking : Options → ℕ → List Event → Type 0
EndsChecking o status events =
    (faults : List Fault) × (text : List ℕ) × (reads : List Event) × IsChecked o faults text reads
    × (events ≡ reads ++ Print text true ∷ []) × (status ≡ check_status faults)

-- The policy is refused, so that no row can be judged; or memory runs out.
abbrev pub HasNoPolicy : Inputs → RunError → Type 0
HasNoPolicy i stop =
    ((error : PolicyError) × Fails error (policy_of i.policy.items)
    × IsOf (policy_fault error) stop) ⊎ (stop ≡ stops.Fault faults.Memory)

-- The check is stopped: before anything is judged, by the policy, or since standard output doesn't
-- take its text.
abbrev pub StopsChecking : Options → RunError → List Event → Type 0
StopsChecking o stop events = StopsBefore o stop events
    ⊎ (((i : Inputs) × AreGiven o i events × HasNoPolicy i stop)
    ⊎ ((faults : List Fault) × (text : List ℕ) × (reads : List Event)
    × IsChecked o faults text reads × (stop ≡ stops.Output)
    × (events ≡ reads ++ Print text false ∷ [])))

-- A check that ends has the status of its faults; one that is stopped says why, and has the status
-- of that. Nothing else is asked of the outside.
abbrev pub IsCheck : Options → ℕ → List Event → Type 0
IsCheck o status events = EndsChecking o status events
    ⊎ ((stop : RunError) × (before : List Event) × (asked : Option Options) × (taken : Bool)
    × StopsChecking o stop before × IsAsked o asked
    × (events ≡ before ++ Tell (stop_text stop asked) taken ∷ []) × (status ≡ status_of stop))
