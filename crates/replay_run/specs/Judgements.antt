-- How the inputs of a run are judged: the plan and the lines that they make, or the first fault.
use Rattle.std.specs.Prelude.{◌≡◌, ℕ, List, Option, None, Result, Ok, Err, string_bytes}
use Rattle.circ_policy.specs.Reading.{Refusal, breaks, not_toml, policy_of}
use Rattle.circ_policy.specs.Terms.{Terms}
use Rattle.record_tables.specs.Base.{base_of}
use Rattle.circ_records.specs.Records.{Entries}
use Rattle.schema.specs.Texts.{Texts}
use Rattle.record_tables.specs.declared.fault.BaseError.{BaseError}
use Rattle.record_tables.specs.declared.fault.BaseError.TheVariants as base
use Rattle.journal_table.specs.Entry.{Entry, first_number}
use Rattle.journal_table.specs.Journal.{journal_of}
use Rattle.journal_table.specs.declared.error.JournalError.{JournalError}
use Rattle.journal_table.specs.declared.error.JournalError.TheVariants as journal
use Rattle.read_set.specs.Plans.{Planned, plan_of}
use Rattle.read_set.specs.declared.way.Way.{Way}
use Rattle.replay_run.specs.declared.fault.Fault.{Fault}
use Rattle.replay_run.specs.declared.fault.Fault.TheVariants as faults

-- what is refused
pub data Refused : Type 0 where
  bad_policy : Refusal → Refused
  bad_base : BaseError → Refused
  bad_journal : JournalError → Refused

-- what inputs make that no rule refuses
pub record Accepted : Type 0 where
  pub plan : Planned
  pub lines : List Entry

-- The number of the journal's first line, where the journal was read and has a line: no fee of the
-- base may have an id that this line or a later one makes.
abbrev pub first_read : Result (List Entry) JournalError → Option ℕ
first_read (Ok lines) = first_number lines
first_read (Err e) = None

-- last the journal
abbrev pub with_lines : Way → Terms → Entries → Result (List Entry) JournalError
    → Result Accepted Refused
with_lines way policy entries (Err e) = Err (bad_journal e)
with_lines way policy entries (Ok lines) =
    Ok (record { plan = plan_of way policy entries lines; lines = lines })

-- before it the base
abbrev pub with_base : Way → Terms → Result (List Entry) JournalError → Result Entries BaseError
    → Result Accepted Refused
with_base way policy read (Err e) = Err (bad_base e)
with_base way policy read (Ok entries) = with_lines way policy entries read

-- and first the policy
abbrev pub with_policy : Way → Texts → Result (List Entry) JournalError → Result Terms Refusal
    → Result Accepted Refused
with_policy way tables read (Err e) = Err (bad_policy e)
with_policy way tables read (Ok policy) =
    with_base way policy read (base_of policy tables (first_read read))

-- the judgement on a policy, tables and a journal, which are replayed in this way
unfoldable pub judgement_on : Way → List ℕ → Texts → List ℕ → Result Accepted Refused
judgement_on way policy tables lines = with_policy way tables (journal_of lines) (policy_of policy)

-- a fault is the one that is due, unless memory ran out
abbrev pub Fails : Fault → Result Accepted Refused → Type 0
Fails faults.BadWorkers due = ⊥
Fails faults.PolicyText due = due ≡ Err (bad_policy not_toml)
Fails (faults.PolicyRule key) due = due ≡ Err (bad_policy (breaks (string_bytes key)))
Fails (faults.BaseTable table) due = due ≡ Err (bad_base (base.Table table))
Fails (faults.BaseRule table row rule values) due =
    due ≡ Err (bad_base (base.Rule table row rule values))
Fails faults.JournalTable due = due ≡ Err (bad_journal journal.Table)
Fails (faults.JournalRule row rule) due = due ≡ Err (bad_journal (journal.Rule row rule))
Fails (faults.Attempts line) due = ⊥
Fails faults.ClockSpent due = ⊥
Fails faults.Memory due = Unit {0}
