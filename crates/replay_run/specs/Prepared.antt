-- What a run begins with, and the judgement of its inputs.
use Rattle.std.specs.Prelude.{◌≡◌, ℕ, Option, Result, Ok, Err, IfOk}
use Rattle.circ_policy.specs.Terms.{Terms}
use Rattle.circ_records.specs.Coherent.{Coherent, number_before}
use Rattle.circ_records.specs.Records.{Entries}
use Rattle.record_tables.specs.Base.{Gives, base_of}
use Rattle.schema.specs.Texts.{Texts}
use Rattle.record_tables.specs.declared.fault.BaseError.{BaseError}
use Rattle.journal_table.specs.Entry.{first_number}
use Rattle.read_set.specs.Plans.{plan_of}
use Rattle.read_set.specs.declared.way.Way.{Way}
use Rattle.replay_run.specs.Judgements.{Accepted, Refused, Fails}
use Rattle.replay_run.specs.declared.fault.Fault.{Fault}
use Rattle.replay_run.specs.declared.prepared.Prepared.{Prepared}
use Rattle.replay_run.specs.declared.prepared.Sound.{Sound}

abbrev pub accepted_of : Prepared → Accepted
accepted_of j = record { plan = j.plan; lines = j.journal }

abbrev pub IsJudgement : Result Prepared Fault → Result Accepted Refused → Type 0
IsJudgement (Ok j) due = due ≡ Ok (accepted_of j)
IsJudgement (Err fault) due = Fails fault due

-- what was read of tables is their base for a policy and the number of a first line, and is
-- coherent before that line
abbrev pub IsBase : Terms → Texts → Option ℕ → Result Entries BaseError → Type 0
IsBase policy tables first base =
    Gives base (base_of policy tables first)
    × IfOk base (λ b. Coherent policy (number_before first) b)

-- before the requests are read: what is due is the plan of these lines over a base that is coherent
-- before the first of them
abbrev pub accepted_by : Way → Sound → Accepted
accepted_by way s = record { plan = plan_of way s.policy s.base s.journal; lines = s.journal }

abbrev pub IsSound : Way → Result Sound Fault → Result Accepted Refused → Type 0
IsSound way (Ok s) due =
    (due ≡ Ok (accepted_by way s)) × Coherent s.policy
    (number_before (first_number s.journal)) s.base
IsSound way (Err fault) due = Fails fault due
