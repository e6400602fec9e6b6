-- The meaning of a line keeps records coherent, and so does a replay.
use Rattle.std.proofs.Common.{◌≡◌, ◌≤◌, ◌^◌, ◌+◌, ◌-◌, ℕ, zero, suc, List, [], ◌∷◌, Bool, true, false, cond, Option, Some, None, length, map, refl, subst, sym, ap, ◌∙◌, arith}
use Rattle.std.specs.Prelude.{◌||◌, is_some, nat_lt, slice_get, unwrap_or}
use Rattle.std.specs.List.{AllByRecursion}
use Rattle.std.specs.Ordering.{is_eq}
use Rattle.circ_policy.specs.Ranges.{FitsPolicy}
use Rattle.circ_policy.specs.Terms.{Terms}
use Rattle.circ_records.proofs.SameTexts.{same-itself}
use Rattle.circ_records.specs.Coherent.{AreOfKind, IsCoherentMap, as_item, has_id}
use Rattle.circ_records.specs.Keys.{id_of, key_cmp}
use Rattle.circ_records.specs.Records.{Entries, record_at}
use Rattle.circ_records.specs.Texts.{is_same}
use Rattle.circ_records.specs.declared.key.Key.{Key}
use Rattle.circ_records.specs.declared.key.Key.TheVariants as keys
use Rattle.circ_records.specs.declared.record.Record.{Record}
use Rattle.sip_answer.specs.declared.deed.Deed.{Deed}
use Rattle.sip_reader.specs.Dates.{is_stamp}
use Rattle.sip_reader.specs.declared.request.Act.{Act}
use Rattle.sip_reader.specs.declared.request.Act.TheVariants as acts
use Rattle.sip_reader.specs.declared.request.Reading.{Reading}
use Rattle.sip_reader.specs.declared.request.Reading.TheVariants as readings
use Rattle.read_set.specs.Asks.{over}
use Rattle.read_set.specs.Coherence.{FitsAct, FitsPlan, FitsReading, HasFewItems, HasFitDeed, MeaningKeepsCoherence, ReplayKeepsCoherence}
use Rattle.read_set.specs.Maps.{Map, put}
use Rattle.read_set.specs.AsRecorded.{followed}
use Rattle.read_set.specs.Meaning.{effect, one, rule, rule_of, rule_with}
use Rattle.read_set.specs.Plans.{Planned, deed_at, reading_at}
use Rattle.read_set.specs.Replay.{after, one_at, one_by}
use Rattle.read_set.specs.declared.effect.Effect.{Effect}
use Rattle.read_set.proofs.Following.{over_then}
use Rattle.read_set.proofs.Keeping.{one-key}
use Rattle.read_set.proofs.Lent.{checkout-keeps, renew-keeps}
use Rattle.read_set.proofs.Line.{Line}
use Rattle.read_set.proofs.OneRecord.{free}
use Rattle.read_set.proofs.Paid.{payment-keeps}
use Rattle.read_set.proofs.RenewedAll.{renew-all-keeps}
use Rattle.read_set.proofs.Returned.{checkin-keeps}
use Rattle.read_set.proofs.SimpleKinds.{block-keeps, hold-keeps, nothing, status-keeps}
use Rattle.read_set.proofs.Told.{followed-keeps}
use Rattle.read_set.proofs.States.{Parts, coherent-parts, parts-later}
use Rattle.read_set.proofs.WholeMaps.{lines-give}

-- ONE LINE

line-begins : (p : Terms) (n : ℕ) (M : Map) → FitsPolicy p → n ≤ 9999999999 → HasFewItems M → IsCoherentMap p n M → Line p n M
line-begins p n M fits low few h = record { low = low; policy = fits; parts = parts-later p n M h few; free = free p n M h low }

act-keeps : (p : Terms) (n : ℕ) (M : Map) → Line p n M → (date : List ℕ) (act : Act) → is_stamp date ≡ true → FitsAct act → Parts p (n + 1) M (put (over M (rule_of p n date act)).writes M)
unfolding rule_of
act-keeps p n M line date (acts.BlockPatron q) stamp fits = block-keeps p (n + 1) true q.patron date M line.parts
act-keeps p n M line date (acts.Checkin q) stamp fits = checkin-keeps p n M line q date
act-keeps p n M line date (acts.Checkout q) stamp fits = checkout-keeps p n M line q date stamp fits
act-keeps p n M line date (acts.Hold q) stamp fits = hold-keeps p (n + 1) false q date M line.parts fits
act-keeps p n M line date (acts.ItemStatus q) stamp fits = status-keeps p (n + 1) q date M line.parts fits
act-keeps p n M line date (acts.PatronEnable q) stamp fits = block-keeps p (n + 1) false q.patron date M line.parts
act-keeps p n M line date (acts.Renew q) stamp fits = renew-keeps p n M line q date stamp fits
act-keeps p n M line date (acts.FeePaid q) stamp fits = payment-keeps p n M line q date
act-keeps p n M line date (acts.RenewAll q) stamp fits = renew-all-keeps p n M line None q date stamp

with-keeps : (p : Terms) (n : ℕ) (M : Map) → Line p n M → (date : List ℕ) (act : Act) (o : Option Deed) → is_stamp date ≡ true → FitsAct act → HasFitDeed o
    → Parts p (n + 1) M (put (over M (rule_with p n date act o)).writes M)
unfolding rule_with
with-keeps p n M line date act None stamp fits told = act-keeps p n M line date act stamp fits
with-keeps p n M line date act (Some o) stamp fits told =
    subst (λ (x : Effect). Parts p (n + 1) M (put x.writes M)) (sym (over_then M (rule_of p n date act) (followed p n date act o)))
    (followed-keeps p n M line date stamp act o (over M (rule_of p n date act)) fits told (act-keeps p n M line date act stamp fits))

rule-keeps : (p : Terms) (n : ℕ) (M : Map) → Line p n M → (r : Reading) (o : Option Deed) → FitsReading r → HasFitDeed o → Parts p (n + 1) M (put (over M (rule p n r o)).writes M)
unfolding rule
rule-keeps p n M line (readings.Asked q) o fits told = with-keeps p n M line q.date q.act o fits.0 fits.1 told
rule-keeps p n M line readings.BadSum o fits told = nothing p (n + 1) M line.parts
rule-keeps p n M line (readings.Passed why) o fits told = nothing p (n + 1) M line.parts
rule-keeps p n M line (readings.Unread why) o fits told = nothing p (n + 1) M line.parts

line-keeps : (p : Terms) (n : ℕ) (M : Map) → Line p n M → (r : Reading) (o : Option Deed) → FitsReading r → HasFitDeed o → Parts p (n + 1) M (put (effect p n r o M).writes M)
line-keeps p n M line r o fits told = subst (λ (x : Effect). Parts p (n + 1) M (put x.writes M)) (lines-give p n r o M) (rule-keeps p n M line r o fits told)

pub meaning-keeps : MeaningKeepsCoherence
meaning-keeps p n r o M policy fits told low few h =
    let parts = line-keeps p n M (line-begins p n M policy low few h) r o fits told in
    (coherent-parts p (n + 1) M (one p n r o M).0 parts, parts.few, parts.kinds)

-- ALL LINES

-- the items of a base are among its entries
among : (es : Entries) (id : List ℕ) → is_some (as_item (record_at es (keys.Item id))) ≡ true → has_id id (map (λ (e : Key × Record). id_of e.0) es) ≡ true
among [] id h = cc h
among (e ∷ es) id h = by (is_eq (key_cmp (keys.Item id) e.0)) refl h (λ g. among es id g)
  where
    either : (b : Bool) → (b || true) ≡ true
    either true = refl
    either false = refl

    by : (b : Bool) → is_eq (key_cmp (keys.Item id) e.0) ≡ b → is_some (as_item (cond b (Some e.1) (record_at es (keys.Item id)))) ≡ true
        → (is_some (as_item (record_at es (keys.Item id))) ≡ true → has_id id (map (λ (x : Key × Record). id_of x.0) es) ≡ true)
        → (is_same id (id_of e.0) || has_id id (map (λ (x : Key × Record). id_of x.0) es)) ≡ true
    by true t g rest =
        let same : keys.Item id ≡ e.0 = one-key (keys.Item id) e.0 t in
        ap (λ k. is_same id (id_of k) || has_id id (map (λ (x : Key × Record). id_of x.0) es)) (sym same) ∙ ap (λ b. b || has_id id (map (λ (x : Key × Record). id_of x.0) es)) (same-itself id)
    by false t g rest = ap (λ b. is_same id (id_of e.0) || b) (rest g) ∙ either (is_same id (id_of e.0))

as-many : (es : Entries) → length (map (λ (e : Key × Record). id_of e.0) es) ≡ length es
as-many [] = refl
as-many (e ∷ es) = ap suc (as-many es)

few-items : (es : Entries) → length es ≤ 2 ^ 64 → HasFewItems (record_at es)
few-items es few = let same : length (map (λ (e : Key × Record). id_of e.0) es) ≡ length es = as-many es in (map (λ (e : Key × Record). id_of e.0) es, omega arith, among es)

fits-at : (rs : List Reading) (i : ℕ) (r : Reading) → AllByRecursion FitsReading rs → slice_get rs i ≡ Some r → FitsReading r
fits-at [] i r all e = cc e
fits-at (x ∷ rs) zero r all e = let same : x ≡ r = cc e in subst (λ (y : Reading). FitsReading y) same all.0
fits-at (x ∷ rs) (suc i) r all e = fits-at rs i r all.1 e

fits-reading : (plan : Planned) → FitsPlan plan → (line : ℕ) (r : Reading) → reading_at plan line ≡ Some r → FitsReading r
fits-reading plan fits line r e = by (nat_lt line plan.first) e
  where
    by : (b : Bool) → cond b None (slice_get plan.readings (line - plan.first)) ≡ Some r → FitsReading r
    by true g = cc g
    by false g = fits-at plan.readings (line - plan.first) r fits.readings g

-- so does each deed
told-at : (os : List (Option Deed)) (i : ℕ) → AllByRecursion HasFitDeed os → HasFitDeed (unwrap_or (slice_get os i) None)
told-at [] i all = tt
told-at (o ∷ os) zero all = all.0
told-at (o ∷ os) (suc i) all = told-at os i all.1

record Stands (plan : Planned) (line : ℕ) (M : Map) : Type 0 where
  coherent : IsCoherentMap plan.policy line M
  kinds : AreOfKind (record_at plan.base) → AreOfKind M
  few : HasFewItems M

step-by : (plan : Planned) → FitsPlan plan → (line : ℕ) (M : Map) → Stands plan line M → line ≤ 9999999999 → (o : Option Reading) → reading_at plan line ≡ o → Stands plan (line + 1) (one_by plan line o M).0
step-by plan fits line M h low None e = record { coherent = coherent-parts plan.policy (line + 1) M M (parts-later plan.policy line M h.coherent h.few); kinds = h.kinds; few = h.few }
step-by plan fits line M h low (Some r) e =
    let kept = meaning-keeps plan.policy line r (deed_at plan line) M fits.policy (fits-reading plan fits line r e) (told-at plan.deeds (line - plan.first) fits.deeds) low h.few h.coherent in
    record { coherent = kept.0; kinds = λ base. kept.2 (h.kinds base); few = kept.1 }

stands-after : (plan : Planned) → FitsPlan plan → (n : ℕ) → n ≤ length plan.readings → Stands plan (plan.first + n) (after plan n)
stands-after plan fits zero h =
    let same : plan.first ≡ plan.first + 0 = omega arith in
    subst (λ (line : ℕ). Stands plan line (record_at plan.base)) same (record { coherent = fits.base; kinds = λ base. base; few = few-items plan.base fits.few })
stands-after plan fits (suc n) h =
    let end : plan.first + length plan.readings ≤ 10000000000 = fits.last in
    let same : plan.first + n + 1 ≡ plan.first + suc n = omega arith in
    subst (λ (line : ℕ). Stands plan line (one_at plan (plan.first + n) (after plan n)).0) same
    (step-by plan fits (plan.first + n) (after plan n) (stands-after plan fits n (omega arith)) (omega arith) (reading_at plan (plan.first + n)) refl)

pub replay-keeps : ReplayKeepsCoherence
replay-keeps plan fits = record {
  before = λ line low high.
      let same : plan.first + (line - plan.first) ≡ line = omega arith in
      subst (λ (x : ℕ). IsCoherentMap plan.policy x (after plan (line - plan.first))) same (stands-after plan fits (line - plan.first) (omega arith)).coherent;
  last = (stands-after plan fits (length plan.readings) (omega arith)).coherent;
  kinds = (stands-after plan fits (length plan.readings) (omega arith)).kinds;
}
