-- The meaning of a line keeps records coherent (circulation rules, records of any moment): what a line leaves of coherent records is coherent
-- before the next line, the ids of the fees that it made included.
use Rattle.std.specs.Prelude.{◌≡◌, ◌≤◌, ◌+◌, ◌^◌, ℕ, true, List, length, Some, Ok, IfSome, is_some, Option}
use Rattle.std.specs.List.{AllByRecursion}
use Rattle.circ_policy.specs.Ranges.{FitsPolicy}
use Rattle.circ_policy.specs.Reading.{policy_of}
use Rattle.circ_policy.specs.Terms.{Terms}
use Rattle.circ_records.specs.Coherent.{AreOfKind, Coherent, IsCoherentMap, as_item, has_id, number_before}
use Rattle.circ_records.specs.Records.{Entries, record_at}
use Rattle.circ_records.specs.declared.key.Key.TheVariants as keys
use Rattle.journal_table.specs.Entry.{Entry, first_number}
use Rattle.journal_table.specs.Journal.{journal_of}
use Rattle.sip_answer.specs.Deeds.{FitsDeed}
use Rattle.sip_answer.specs.declared.deed.Deed.{Deed}
use Rattle.sip_reader.specs.Dates.{is_stamp}
use Rattle.sip_reader.specs.Days.{IsDay}
use Rattle.sip_reader.specs.Texts.{is_text, line_number_end, line_number_max}
use Rattle.sip_reader.specs.declared.request.Act.{Act}
use Rattle.sip_reader.specs.declared.request.Act.TheVariants as acts
use Rattle.sip_reader.specs.declared.request.Reading.{Reading}
use Rattle.sip_reader.specs.declared.request.Reading.TheVariants as readings
use Rattle.read_set.specs.Maps.{Map}
use Rattle.read_set.specs.Meaning.{one}
use Rattle.read_set.specs.Plans.{Planned, plan_of}
use Rattle.read_set.specs.Replay.{before, last}
use Rattle.read_set.specs.declared.way.Way.{Way}

-- a given due date is a day, and what is written as it is given is a text
abbrev pub FitsAct : Act → Type 0
FitsAct (acts.Checkout q) = IfSome q.due IsDay
FitsAct (acts.Renew q) = IfSome q.due IsDay
FitsAct (acts.Hold q) = is_text q.pickup ≡ true
FitsAct (acts.ItemStatus q) = IfSome q.properties (λ t. is_text t ≡ true)
FitsAct q = Unit {0}

-- what holds of each request that was read
abbrev pub FitsReading : Reading → Type 0
FitsReading (readings.Asked q) = (is_stamp q.date ≡ true) × FitsAct q.act
FitsReading r = Unit {0}

-- what holds of each line's deed, if it has one
abbrev pub HasFitDeed : Option Deed → Type 0
HasFitDeed o = IfSome o FitsDeed

-- there are at most 2^64 items (a list that names them all has no more), so no line makes more fees than that
abbrev pub HasFewItems : Map → Type 0
HasFewItems M = (ids : List (List ℕ)) × (length ids ≤ 2 ^ 64) × ((id : List ℕ) → is_some (as_item (M (keys.Item id))) ≡ true → has_id id ids ≡ true)

-- if the records before line n are coherent, those after it are coherent before line n + 1; where all are of their keys' kinds, they stay so
abbrev pub MeaningKeepsCoherence : Type 0
MeaningKeepsCoherence = (policy : Terms) (n : ℕ) (r : Reading) (o : Option Deed) (M : Map) → FitsPolicy policy → FitsReading r → IfSome o FitsDeed
    → n ≤ line_number_max → HasFewItems M → IsCoherentMap policy n M
    → IsCoherentMap policy (n + 1) (one policy n r o M).0 × HasFewItems (one policy n r o M).0 × (AreOfKind M → AreOfKind (one policy n r o M).0)

-- what a plan's type promises: policy, readings and deeds fit, the base has at most 2^64 records and is coherent at the number of the first line, and no line has a
-- number of more than ten digits
pub record FitsPlan (plan : Planned) : Type 0 where
  pub policy : FitsPolicy plan.policy
  pub readings : AllByRecursion FitsReading plan.readings
  pub deeds : AllByRecursion HasFitDeed plan.deeds
  pub base : Coherent plan.policy plan.first plan.base
  pub few : length plan.base ≤ 2 ^ 64
  pub last : plan.first + length plan.readings ≤ line_number_end

-- the records before each line, and after the last one, are coherent there; the last ones are of their keys' kinds where those of the base are
pub record StaysCoherent (plan : Planned) : Type 0 where
  pub before : (line : ℕ) → plan.first ≤ line → line ≤ plan.first + length plan.readings → IsCoherentMap plan.policy line (before plan line)
  pub kinds : AreOfKind (record_at plan.base) → AreOfKind (last plan)
  pub last : IsCoherentMap plan.policy (plan.first + length plan.readings) (last plan)

-- this holds for each plan that fits
abbrev pub ReplayKeepsCoherence : Type 0
ReplayKeepsCoherence = (plan : Planned) → FitsPlan plan → StaysCoherent plan

-- it also holds for the plan of this base with any policy and journal that were read, where the base is coherent before the journal's first line
abbrev pub ReadPlansStayCoherent : Entries → Type 0
ReadPlansStayCoherent base = (way : Way) (text bytes : List ℕ) (policy : Terms) (lines : List Entry) → policy_of text ≡ Ok policy → journal_of bytes ≡ Ok lines
    → Coherent policy (number_before (first_number lines)) base → StaysCoherent (plan_of way policy base lines)
