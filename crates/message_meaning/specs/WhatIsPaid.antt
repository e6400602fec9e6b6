-- Fee Paid (SIP 2.00, message 37) and the walk over the fees (circulation rules, fee paid): on coherent records a patron's payment of a fee amount (BV) is
-- paid on what is meant, the fee of the fee identifier (CG) or else each fee of the patron, the oldest first, as far as the money goes.
use Rattle.std.specs.Prelude.{◌≡◌, ◌≤◌, ◌+◌, ℕ, true, min, sum, List, [], map, take, Option, Some}
use Rattle.std.specs.Option.{option_map_or}
use Rattle.circ_policy.specs.Terms.{Terms}
use Rattle.circ_records.specs.Coherent.{IsCoherentMap}
use Rattle.circ_records.specs.declared.record.Fee.{Fee}
use Rattle.circ_records.specs.declared.key.Key.TheVariants as keys
use Rattle.circ_records.specs.declared.record.Record.{Record}
use Rattle.circ_records.specs.declared.record.Record.TheVariants as records
use Rattle.sip_reader.specs.declared.request.FeePaid.{FeePaid}
use Rattle.read_set.specs.Fees.{owed}
use Rattle.read_set.specs.Ids.{same}
use Rattle.read_set.specs.Known.{fee_in, patron_in}
use Rattle.read_set.specs.Maps.{Map, put}
use Rattle.read_set.specs.Payments.{meant}
use Rattle.read_set.specs.WholeMap.{fee_paid}
use Rattle.read_set.specs.declared.known.Member.{Member}

-- what was paid so far of a fee; one without a record counts as nothing
unfoldable pub paid_of : Option Fee → ℕ
paid_of fee = option_map_or (λ f. f.paid) fee 0

-- Paid: the sum of what was paid so far, at each position of the list
abbrev pub paid : Map → List (List ℕ) → ℕ
paid M fees = sum (map (λ id. paid_of (fee_in M id)) fees)

-- a patron's list of fees
abbrev pub fees_in : Option Record → List (List ℕ)
fees_in (Some (records.Patron patron)) = patron.fees
fees_in _ = []

-- what a patron owes
abbrev pub owed_by : Map → List ℕ → ℕ
owed_by M patron = owed M (fees_in (M (keys.Patron patron)))

-- from the records before a payment of this amount to those after it, where these fees are meant
pub record IsPayment (amount : ℕ) (patron : List ℕ) (fees : List (List ℕ)) (before after : Map) : Type 0 where
  -- the lesser of the amount and what is left to pay of them is paid on them
  pub pays : paid after fees ≡ paid before fees + min amount (owed before fees)
  -- and so it is on the first of them, however many: the oldest are paid first
  pub oldest_first : (k : ℕ) → paid after (take k fees) ≡ paid before (take k fees) + min amount (owed before (take k fees))
  -- what the patron owes falls by just that
  pub owes : owed_by after patron + min amount (owed before fees) ≡ owed_by before patron
  -- no fee is paid above its amount
  pub within : (id : List ℕ) (fee : Fee) → fee_in after id ≡ Some fee → fee.paid ≤ fee.amount

-- so is each payment of a patron who is known, in the policy's currency
abbrev pub PaymentsPayWhatIsMeant : Type 0
PaymentsPayWhatIsMeant = (policy : Terms) (n : ℕ) (q : FeePaid) (date : List ℕ) (M : Map) (member : Member)
    → IsCoherentMap policy n M → patron_in policy M q.patron ≡ Some member → same q.currency policy.currency ≡ true
    → IsPayment q.amount q.patron (meant M q.fee member.patron.fees) M (put (fee_paid policy q date M).writes M)
