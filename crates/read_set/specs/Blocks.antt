-- Block Patron (SIP 2.00, message 01) and Patron Enable (message 25), by the circulation rules: block, enable, patron status.
use Rattle.std.specs.Prelude.{ℕ, Bool, true, false, ◌||◌, nat_lt, nat_le, List, [], ◌∷◌, length, Option, Some, None}
use Rattle.circ_policy.specs.Terms.{Terms}
use Rattle.circ_records.specs.declared.key.Key.TheVariants as keys
use Rattle.circ_records.specs.declared.record.Record.TheVariants as records
use Rattle.sip_answer.specs.declared.answer.Answer.{Answer}
use Rattle.sip_answer.specs.declared.answer.Answer.TheVariants as answers
use Rattle.sip_answer.specs.declared.answer.KnownPatron.{KnownPatron}
use Rattle.sip_answer.specs.declared.answer.PatronAnswer.{PatronAnswer}
use Rattle.sip_answer.specs.declared.answer.PatronStatus.{PatronStatus}
use Rattle.sip_answer.specs.declared.reason.Reason.{Reason}
use Rattle.sip_answer.specs.declared.reason.Reason.TheVariants as reasons
use Rattle.read_set.specs.Asks.{Asks, Give, ◌>>=◌}
use Rattle.read_set.specs.Effects.{unwritten, writing}
use Rattle.read_set.specs.Lookups.{patron_at}
use Rattle.read_set.specs.Owing.{owed_at}
use Rattle.read_set.specs.declared.effect.Effect.{Effect}
use Rattle.read_set.specs.declared.known.Member.{Member}

-- Patron status: position 0 is set by position 5, by 11 or by a block; 1 by position 11 or by a block; 3 by a block
abbrev pub status_of : Bool → Bool → Bool → PatronStatus
status_of blocked many_loans many_fees = record {
  charge_denied = many_loans || many_fees || blocked;
  renewal_denied = many_fees || blocked;
  hold_denied = blocked;
  too_many_items = many_loans;
  excessive_fees = many_fees;
}

-- position 5: loans at least max_loans; position 11: owed above max_fees
abbrev pub member_status : Bool → Member → ℕ → PatronStatus
member_status blocked member owes = status_of blocked (nat_le member.class.max_loans (length member.patron.loans)) (nat_lt member.class.max_fees owes)

-- of an unknown patron, positions 0, 1 and 3
abbrev pub no_status : PatronStatus
no_status = record { charge_denied = true; renewal_denied = true; hold_denied = true; too_many_items = false; excessive_fees = false }

abbrev pub patron_answer : Terms → List ℕ → List ℕ → PatronStatus → Option KnownPatron → Reason → PatronAnswer
patron_answer p id date status known why = record { date = date; institution = p.institution; patron = id; status = status; currency = p.currency; known = known; reason = why }

-- the answer to a block, and to an enable
abbrev pub block_answer : Bool → PatronAnswer → Answer
block_answer true a = answers.BlockPatron a
block_answer false a = answers.PatronEnable a

-- the block is set or cleared, and the status is that after the change; a known patron is written also where the block
-- was so before
unfoldable pub blocked_by : Terms → Bool → List ℕ → List ℕ → Member → ℕ → Effect
blocked_by p blocks id date member owes = writing
    ((keys.Patron id, records.Patron (record member.patron { blocked = blocks })) ∷ [])
    (block_answer blocks (patron_answer p id date (member_status blocks member owes) (Some (record { name = member.patron.name; owed = owes })) reasons.Done))

abbrev pub block_rule_known : Terms → Bool → List ℕ → List ℕ → Option Member → Asks Effect
block_rule_known p blocks id date None = Give (unwritten (Some (block_answer blocks (patron_answer p id date no_status None reasons.UnknownPatron))))
block_rule_known p blocks id date (Some member) = do
  owes ← owed_at [] member.patron.fees
  Give (blocked_by p blocks id date member owes)

-- asks for the patron, then for the fees in the order of its list
unfoldable pub block_rule : Terms → Bool → List ℕ → List ℕ → Asks Effect
block_rule p blocks id date = do
  patron ← patron_at p id
  block_rule_known p blocks id date patron
