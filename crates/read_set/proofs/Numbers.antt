-- The plan of a journal's readings.
use Rattle.std.proofs.Common.{◌≡◌, ◌∙◌, ℕ, List, [], ◌∷◌, Option, map, refl, ap}
use Rattle.std.specs.Prelude.{unwrap_or}
use Rattle.circ_policy.specs.Terms.{Terms}
use Rattle.circ_records.specs.Records.{Entries}
use Rattle.journal_table.specs.Entry.{Entry, first_number}
use Rattle.journal_table.specs.Readings.{first_read, readings_of, requests_read, reading_at}
use Rattle.read_set.specs.Plans.{Planned, deeds_of, plan_of, plan_read}
use Rattle.read_set.specs.declared.way.Way.{Way}
use Rattle.sip_answer.specs.declared.deed.Deed.{Deed}
use Rattle.sip_reader.specs.Reading.{reading}
use Rattle.sip_reader.specs.declared.request.Reading.{Reading}

pub first-same : (lines : List Entry) → first_read (readings_of lines) ≡ first_number lines
first-same [] = refl
first-same (line ∷ rest) = refl

readings-same : (lines : List Entry) → map reading_at (readings_of lines) ≡ requests_read lines
readings-same [] = refl
readings-same (line ∷ rest) = ap (λ rs. reading_at (record { number = line.number; reading = reading line.request }) ∷ rs) (readings-same rest)

planned : Terms → Entries → List (Option Deed) → ℕ → List Reading → Planned
planned policy base deeds first readings = record { policy = policy; base = base; first = first; readings = readings; deeds = deeds }

-- of a journal's readings the plan is the journal's
pub plan-same : (way : Way) (policy : Terms) (base : Entries) (lines : List Entry) → plan_read policy base (readings_of lines) (deeds_of way policy.due_form lines) ≡ plan_of way policy base lines
unfolding planned
plan-same way policy base lines =
    let told = deeds_of way policy.due_form lines in
    ap (λ first. planned policy base told (unwrap_or first 10000000000) (map reading_at (readings_of lines))) (first-same lines)
    ∙ ap (planned policy base told (unwrap_or (first_number lines) 10000000000)) (readings-same lines)
