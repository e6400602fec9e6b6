-- Fee Paid (SIP 2.00, message 37), by the circulation rules: fee paid.
use Rattle.std.specs.Prelude.{ℕ, Bool, true, false, ◌==◌, min, ◌+◌, ◌-◌, List, [], ◌∷◌, ◌++◌, Option, Some, None, if◌then◌else◌}
use Rattle.circ_policy.specs.Terms.{Terms}
use Rattle.circ_records.specs.declared.key.Key.TheVariants as keys
use Rattle.circ_records.specs.declared.record.Fee.{Fee}
use Rattle.circ_records.specs.declared.record.Patron.{Patron}
use Rattle.circ_records.specs.declared.record.Record.TheVariants as records
use Rattle.sip_answer.specs.declared.answer.Answer.{Answer}
use Rattle.sip_answer.specs.declared.answer.Answer.TheVariants as answers
use Rattle.sip_answer.specs.Reasons.{grants}
use Rattle.sip_answer.specs.declared.reason.Reason.{Reason}
use Rattle.sip_answer.specs.declared.reason.Reason.TheVariants as reasons
use Rattle.sip_reader.specs.declared.request.FeePaid.{FeePaid}
use Rattle.read_set.specs.Asks.{Asks, Give, ◌>>=◌}
use Rattle.read_set.specs.Effects.{unwritten, ◌⊕◌}
use Rattle.read_set.specs.Ids.{has_id, is_any, without_all}
use Rattle.read_set.specs.Known.{as_fee, fee_in}
use Rattle.read_set.specs.Lookups.{ask_after, fee_at, patron_at}
use Rattle.read_set.specs.Maps.{Map}
use Rattle.read_set.specs.Rules.{payment_refusals}
use Rattle.read_set.specs.declared.effect.Effect.{Effect}
use Rattle.read_set.specs.declared.known.Member.{Member}
use Rattle.read_set.specs.declared.progress.Payments.{Payments}

-- what is paid of a fee from what is left of the money: at most the fee's rest
abbrev pub part_of : ℕ → Fee → ℕ
part_of left fee = min left (fee.amount - fee.paid)

-- a fee on which something was paid and whose rest is now 0 is closed
abbrev pub part_paid : List ℕ → ℕ → Fee → Payments → Payments
part_paid id part fee done =
    if part == 0 then done
    else record {
      left = done.left - part;
      writes = done.writes ⊕ ((keys.Fee id, records.Fee (record fee { paid = fee.paid + part })) ∷ []);
      closed = if part == fee.amount - fee.paid then done.closed ++ id ∷ [] else done.closed;
    }

-- a fee's turn; one without a record counts as nothing
unfoldable pub pay_one : List ℕ → Payments → Option Fee → Payments
pay_one id done None = done
pay_one id done (Some fee) = part_paid id (part_of done.left fee) fee done

-- the fees of a list in order, each after the ones before it, until nothing is left of the money
abbrev pub pay_rule_each : List (List ℕ) → Payments → Asks Payments
pay_rule_each [] done = Give done
pay_rule_each (id ∷ more) done =
    if done.left == 0 then Give done
    else do
      found ← ask_after done.writes (keys.Fee id)
      pay_rule_each more (pay_one id done (as_fee found))

-- the fee that is named, where it is in the patron's list and has a record; else the whole list
abbrev pub only_known : List ℕ → List (List ℕ) → Option Fee → List (List ℕ)
only_known id fees None = fees
only_known id fees (Some fee) = id ∷ []

abbrev pub named : Bool → List ℕ → List (List ℕ) → Asks (List (List ℕ))
named false id fees = Give fees
named true id fees = do
  fee ← fee_at id
  Give (only_known id fees fee)

unfoldable pub meant_at : Option (List ℕ) → List (List ℕ) → Asks (List (List ℕ))
meant_at None fees = Give fees
meant_at (Some id) fees = named (has_id id fees) id fees

abbrev pub meant : Map → Option (List ℕ) → List (List ℕ) → List (List ℕ)
meant M None fees = fees
meant M (Some id) fees = if has_id id fees then only_known id fees (fee_in M id) else fees

abbrev pub payment_answer : Terms → FeePaid → List ℕ → Reason → Answer
payment_answer p q date why = answers.FeePaid (record { date = date; institution = p.institution; patron = q.patron; accepted = grants why; reason = why })

-- whether any of the money was taken
abbrev pub paid_reason : FeePaid → ℕ → Reason
paid_reason q left = if left == q.amount then reasons.NothingOwed else reasons.Paid

-- money that is left over isn't stored. Closed fees leave the list, their records stay; the patron is written only where one left
unfoldable pub all_paid : Terms → FeePaid → List ℕ → Patron → Payments → Effect
all_paid p q date patron done = record {
  writes = if is_any done.closed then done.writes ⊕ ((keys.Patron q.patron, records.Patron (record patron { fees = without_all done.closed patron.fees })) ∷ []) else done.writes;
  answer = Some (payment_answer p q date (paid_reason q done.left));
}

unfoldable pub payment_rule : Terms → FeePaid → List ℕ → Patron → Asks Effect
payment_rule p q date patron = do
  ids ← meant_at q.fee patron.fees
  done ← pay_rule_each ids (record { left = q.amount; writes = []; closed = [] })
  Give (all_paid p q date patron done)

-- the first test that holds refuses; if none does, what comes after them
abbrev pub refused_or : List (Reason × Bool) → (Reason → Asks Effect) → Asks Effect → Asks Effect
refused_or [] refuse after = after
refused_or (test ∷ more) refuse after = if test.1 then refuse test.0 else refused_or more refuse after

abbrev pub payment_refused : Terms → FeePaid → List ℕ → Reason → Asks Effect
payment_refused p q date why = Give (unwritten (Some (payment_answer p q date why)))

abbrev pub fee_paid_rule_known : Terms → FeePaid → List ℕ → Option Member → Asks Effect
fee_paid_rule_known p q date None = payment_refused p q date reasons.UnknownPatron
fee_paid_rule_known p q date (Some member) =
    refused_or (payment_refusals p q) (payment_refused p q date) (payment_rule p q date member.patron)

-- asks for the patron, then for the named fee, then for the fees until nothing is left of the money
unfoldable pub fee_paid_rule : Terms → FeePaid → List ℕ → Asks Effect
fee_paid_rule p q date = do
  patron ← patron_at p q.patron
  fee_paid_rule_known p q date patron
