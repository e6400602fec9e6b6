-- The plan of what was read fits: of a policy, a journal and a base as they are read.
use Rattle.std.proofs.Common.{◌≡◌, ◌<◌, ◌≤◌, ◌+◌, ◌^◌, ℕ, suc, List, [], ◌∷◌, Option, Some, None, Ok, length, map, refl, subst, sym, ap, arith}
use Rattle.std.specs.Prelude.{unwrap_or}
use Rattle.std.specs.List.{AllByRecursion}
use Rattle.circ_policy.proofs.Ranges.{policy-fits}
use Rattle.circ_policy.specs.Ranges.{FitsPolicy}
use Rattle.circ_policy.specs.Reading.{policy_of}
use Rattle.circ_policy.specs.Terms.{Terms}
use Rattle.circ_records.specs.Coherent.{Coherent, number_before}
use Rattle.circ_records.specs.Records.{Entries}
use Rattle.journal_table.proofs.Ends.{ends-lines}
use Rattle.journal_table.specs.Entry.{Entry, first_number}
use Rattle.journal_table.specs.Journal.{journal_of, header}
use Rattle.journal_table.specs.Readings.{EndInTime, IsRead, NumberedReading, first_read, reading_at}
use Rattle.sip_reader.specs.declared.request.Reading.{Reading}
use Rattle.csv_table.specs.Rows.{rows_under}
use Rattle.sip_answer.proofs.DeedFits.{deed-fits}
use Rattle.sip_answer.specs.declared.deed.Deed.{Deed}
use Rattle.sip_reader.specs.Reading.{reading}
use Rattle.sip_reader.specs.declared.request.Reading.TheVariants as readings
use Rattle.circ_policy.specs.declared.due_form.DueForm.{DueForm}
use Rattle.read_set.specs.Coherence.{FitsPlan, FitsReading, HasFitDeed, ReadPlansStayCoherent}
use Rattle.read_set.specs.declared.way.Way.{Way}
use Rattle.read_set.specs.declared.way.Way.TheVariants as ways
use Rattle.read_set.specs.Plans.{beginning, deed_read, deeds_of, plan_over, plan_of, plan_read, readings_of, Planned}
use Rattle.read_set.proofs.Kept.{replay-keeps}
use Rattle.read_set.proofs.ReadingFits.{reading-fits}

-- what each line asks fits
all-fit : (lines : List Entry) → AllByRecursion FitsReading (readings_of lines)
all-fit [] = tt
all-fit (line ∷ rest) = (reading-fits line.request, all-fit rest)

-- so does each that is known to be read from a message
read-fits : (rs : List Reading) → AllByRecursion IsRead rs → AllByRecursion FitsReading rs
read-fits [] h = tt
read-fits (r ∷ rest) h = (subst FitsReading (sym h.0.1) (reading-fits h.0.0), read-fits rest h.1)

as-many : (lines : List Entry) → length (readings_of lines) ≡ length lines
as-many [] = refl
as-many (line ∷ rest) = ap suc (as-many rest)

-- THE PLAN

-- a count holds the number of the records
pub counted : (base : Entries) → length base < 2 ^ 64 → length base ≤ 2 ^ 64
counted base few = omega (arith, few)

begins : (first : Option ℕ) → number_before first ≡ unwrap_or first 10000000000
begins None = refl
begins (Some first) = refl

as-many-read : (rs : List NumberedReading) → length (map reading_at rs) ≡ length rs
as-many-read [] = refl
as-many-read (r ∷ rest) = ap suc (as-many-read rest)

-- the plan of numbered readings fits
pub made-fits : (policy : Terms) (base : Entries) (read : List NumberedReading) (deeds : List (Option Deed)) → FitsPolicy policy → AllByRecursion IsRead (map reading_at read) → AllByRecursion HasFitDeed deeds → EndInTime read
    → length base ≤ 2 ^ 64 → Coherent policy (number_before (first_read read)) base → FitsPlan (plan_read policy base read deeds)
made-fits policy base read deeds p r told end few h = record {
  policy = p;
  readings = read-fits (map reading_at read) r;
  deeds = told;
  base = subst (λ (n : ℕ). Coherent policy n base) (begins (first_read read)) h;
  few = few;
  last = let same : length (map reading_at read) ≡ length read = as-many-read read in omega arith;
}

-- what each response says was done fits
read-told : (form : DueForm) (o : Option Reading) (response : List ℕ) → HasFitDeed (deed_read form o response)
read-told form None response = tt
read-told form (Some (readings.Asked q)) response = deed-fits form q.act response
read-told form (Some readings.BadSum) response = tt
read-told form (Some (readings.Passed why)) response = tt
read-told form (Some (readings.Unread why)) response = tt

all-told : (form : DueForm) (lines : List Entry) → AllByRecursion HasFitDeed (map (λ (line : Entry). deed_read form (Some (reading line.request)) line.response) lines)
all-told form [] = tt
all-told form (line ∷ rest) = (read-told form (Some (reading line.request)) line.response, all-told form rest)

told-fits : (way : Way) (form : DueForm) (lines : List Entry) → AllByRecursion HasFitDeed (deeds_of way form lines)
unfolding deeds_of
told-fits ways.ByRules form lines = tt
told-fits ways.AsRecorded form lines = all-told form lines

pub plan-fits : (way : Way) (text bytes : List ℕ) (policy : Terms) (base : Entries) (lines : List Entry) → policy_of text ≡ Ok policy → journal_of bytes ≡ Ok lines
    → length base ≤ 2 ^ 64 → Coherent policy (number_before (first_number lines)) base → FitsPlan (plan_of way policy base lines)
plan-fits way text bytes policy base lines p j few h = record {
  policy = policy-fits text policy p;
  readings = all-fit lines;
  deeds = told-fits way policy.due_form lines;
  base = subst (λ (n : ℕ). Coherent policy n base) (begins (first_number lines)) h;
  few = few;
  last = let same : length (readings_of lines) ≡ length lines = as-many lines in
      let end : beginning lines + length lines ≤ 10000000000 = ends-lines (rows_under header bytes) lines j in
      omega arith;
}

-- no records are coherent
none-coherent : (policy : Terms) (n : ℕ) → Coherent policy n []
none-coherent policy n = record { patrons = λ id p e. cc; items = λ id i e. cc; fees = λ id f e. cc }

-- so a plan that fits does over no records
pub bare-fits : (plan : Planned) → FitsPlan plan → FitsPlan (plan_over plan [])
bare-fits plan fits = record { policy = fits.policy; readings = fits.readings; deeds = fits.deeds; base = none-coherent plan.policy plan.first; few = omega arith; last = fits.last }

pub read-plans : (base : Entries) → length base ≤ 2 ^ 64 → ReadPlansStayCoherent base
read-plans base few way text bytes policy lines p j h = replay-keeps (plan_of way policy base lines) (plan-fits way text bytes policy base lines p j few h)
