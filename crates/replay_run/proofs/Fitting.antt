-- A plan fits the journal that it was made of.
use Rattle.std.proofs.Common.{◌≡◌, ℕ, List, Result, Ok, Err, IfOk, refl, subst}
use Rattle.circ_policy.specs.Reading.{Refusal, policy_of}
use Rattle.circ_policy.specs.Terms.{Terms}
use Rattle.record_tables.specs.Base.{base_of}
use Rattle.circ_records.specs.Records.{Entries}
use Rattle.schema.specs.Texts.{Texts}
use Rattle.record_tables.specs.declared.fault.BaseError.{BaseError}
use Rattle.journal_table.specs.Entry.{Entry}
use Rattle.journal_table.specs.Journal.{journal_of}
use Rattle.journal_table.specs.declared.error.JournalError.{JournalError}
use Rattle.read_set.specs.Plans.{readings_of}
use Rattle.read_set.specs.declared.way.Way.{Way}
use Rattle.replay_run.specs.Judgements.{Accepted, Refused, first_read, judgement_on, with_base, with_lines, with_policy}
use Rattle.replay_run.specs.Prepared.{IsJudgement}
use Rattle.replay_run.specs.declared.fault.Fault.{Fault}
use Rattle.replay_run.specs.declared.prepared.Prepared.{Prepared}

abbrev pub Fits : Result Accepted Refused → Type 0
Fits (Ok j) = j.plan.readings ≡ readings_of j.lines
Fits (Err refused) = Unit {0}

lines-fit : (way : Way) (policy : Terms) (entries : Entries)
    (read : Result (List Entry) JournalError) → Fits (with_lines way policy entries read)
lines-fit way policy entries (Ok lines) = refl
lines-fit way policy entries (Err e) = tt

base-fits : (way : Way) (policy : Terms) (read : Result (List Entry) JournalError)
    (base : Result Entries BaseError) → Fits (with_base way policy read base)
base-fits way policy read (Ok entries) = lines-fit way policy entries read
base-fits way policy read (Err e) = tt

policy-fits : (way : Way) (tables : Texts) (read : Result (List Entry) JournalError)
    (policy : Result Terms Refusal) → Fits (with_policy way tables read policy)
policy-fits way tables read (Ok policy) = base-fits way policy read (base_of policy tables (first_read read))
policy-fits way tables read (Err e) = tt

pub judged-fits : (way : Way) (policy : List ℕ) (tables : Texts) (lines : List ℕ)
    → Fits (judgement_on way policy tables lines)
unfolding judgement_on
judged-fits way policy tables lines = policy-fits way tables (journal_of lines) (policy_of policy)

-- and so does the plan of what was judged
pub fit : (r : Result Prepared Fault) (due : Result Accepted Refused) → IsJudgement r due → Fits due
    → IfOk r (λ j. j.plan.readings ≡ readings_of j.journal)
fit (Ok j) due judges fits = subst Fits judges fits
fit (Err fault) due judges fits = tt
