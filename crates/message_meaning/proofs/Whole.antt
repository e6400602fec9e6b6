-- Over a whole map, the program of a line gives what the line does.
use Rattle.std.proofs.Common.{◌≡◌, ℕ, Option, Some, None, refl, ap, sym, ◌∙◌, Result, Ok, Err, IfOk}
use Rattle.circ_records.specs.declared.key.Key.{Key}
use Rattle.sip_reader.specs.declared.request.Reading.{Reading}
use Rattle.message_meaning.specs.Rules.{rule_by, rule_at}
use Rattle.read_set.specs.Asks.{over, follow}
use Rattle.read_set.specs.Maps.{Map, Part, Agrees, put}
use Rattle.read_set.specs.Meaning.{effect}
use Rattle.read_set.specs.Plans.{Planned, deed_at, reading_at}
use Rattle.read_set.specs.Replay.{one_by, GivesAt}
use Rattle.read_set.specs.Stops.{Follows}
use Rattle.read_set.specs.declared.effect.Effect.{Effect}
use Rattle.read_set.specs.declared.source.Stop.{Stop}
use Rattle.read_set.proofs.Following.{settles}
use Rattle.read_set.proofs.WholeMaps.{lines-give}

given_by : (plan : Planned) (line : ℕ) (r : Option Reading) (M : Map) (e : Effect) → over M (rule_by plan line r) ≡ e
    → ((k : Key) → (one_by plan line r M).0 k ≡ put e.writes M k) × ((one_by plan line r M).1 ≡ e.answer)
given_by plan line None M e h = rw (← h) (λ k. refl, refl)
given_by plan line (Some r) M e h =
    let same : effect plan.policy line r (deed_at plan line) M ≡ e = sym (lines-give plan.policy line r (deed_at plan line) M) ∙ h in
    (λ k. ap (λ (x : Effect). put x.writes M k) same, ap (λ (x : Effect). x.answer) same)

-- and so does what a call returned that followed it
pub given_all : (has : Part) (plan : Planned) (line : ℕ) (r : Result Effect Stop) → Follows r (follow has (rule_at plan line))
    → IfOk r (λ e. (M : Map) → Agrees has M → GivesAt plan line M e)
unfolding rule_at
given_all has plan line (Ok e) h = λ M a. given_by plan line (reading_at plan line) M e (settles has M (rule_at plan line) e a h)
given_all has plan line (Err stop) h = tt
