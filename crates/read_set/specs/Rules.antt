-- The rules: what decides each request, over the records M as they are before it, as RULES.md numbers
-- it. The tests are in their order, each with what it decides; the first that holds counts, and if
-- none holds, what was asked for is done.
use Rattle.std.specs.Prelude.{ℕ, Bool, not, ◌&&◌, ◌==◌, nat_lt, nat_le, List, [], ◌∷◌, ◌++◌, length, map, Option, Some, None, is_some}
use Rattle.circ_policy.specs.Terms.{Terms}
use Rattle.circ_records.specs.declared.holds.TheConstants.{QUEUE_MAX}
use Rattle.circ_records.specs.declared.record.Item.{Item}
use Rattle.sip_answer.specs.declared.reason.Reason.{Reason}
use Rattle.sip_answer.specs.declared.reason.Reason.TheVariants as reasons
use Rattle.sip_reader.specs.declared.request.FeePaid.{FeePaid}
use Rattle.sip_reader.specs.declared.request.HoldMode.{HoldMode}
use Rattle.sip_reader.specs.declared.request.HoldMode.TheVariants as modes
use Rattle.sip_reader.specs.declared.request.HoldRequest.{HoldRequest}
use Rattle.read_set.specs.Fees.{owed}
use Rattle.read_set.specs.Ids.{same}
use Rattle.read_set.specs.Loans.{is_lent, lent_to, loan_of, may_renew, not_own, renewals_of}
use Rattle.read_set.specs.Maps.{Map}
use Rattle.read_set.specs.Queues.{first_is_another, has_queue, waits}
use Rattle.read_set.specs.declared.known.Article.{Article}
use Rattle.read_set.specs.declared.known.Member.{Member}
use Rattle.read_set.specs.declared.verdict.LoanRequest.{LoanRequest}
use Rattle.read_set.specs.declared.verdict.Verdict.{Verdict}
use Rattle.read_set.specs.declared.verdict.Verdict.TheVariants as verdicts

-- each of these tests refuses
abbrev pub refusing : List (Reason × Bool) → List (Verdict × Bool)
refusing tests = map (λ (test : Reason × Bool). (verdicts.Refused test.0, test.1)) tests

-- of loans, renewals and holds: who and what is unknown
abbrev pub unknown : Option Member → Option Article → List (Reason × Bool)
unknown patron item =
    (reasons.UnknownPatron, not (is_some patron))
    ∷ (reasons.UnknownItem, not (is_some item))
    ∷ []

-- further tests of a patron and an item, if both are known
abbrev pub if_known : {A : Type 0} → Option Member → Option Article → (Member → Article → List (A × Bool)) → List (A × Bool)
if_known (Some member) (Some article) tests = tests member article
if_known (Some member) None tests = []
if_known None item tests = []

-- LOANS AND RENEWALS

-- a loan, before it matters what is owed: made if it is forced
unfoldable pub early_lending : LoanRequest → Member → Article → List (Verdict × Bool)
early_lending a member article = (verdicts.Made, a.forced) ∷ refusing (
    (reasons.OwnLoan, lent_to a.patron article.item.loan)  -- on loan to the same patron
    ∷ (reasons.Lent, is_lent article.item.loan)  -- on loan to another
    ∷ (reasons.Queue, first_is_another a.patron article.item.holds)  -- the queue's first entry is another's
    ∷ (reasons.Blocked, member.patron.blocked)
    ∷ (reasons.MaxLoans, nat_le member.class.max_loans (length member.patron.loans))  -- loans at least max_loans
    ∷ [])

-- a renewal, before it matters what is owed: if it is forced, only the very first test refuses it
unfoldable pub early_renewal : LoanRequest → Member → Article → List (Verdict × Bool)
early_renewal a member article =
    (verdicts.Refused (not_own article.item.loan), not (may_renew a article.item.loan))  -- no loan, or another's
    ∷ (verdicts.Made, a.forced)
    ∷ refusing (
    (reasons.Blocked, member.patron.blocked)
    ∷ (reasons.WaitedFor, has_queue article.item.holds)  -- somebody waits
    ∷ (reasons.MaxRenewals, nat_le member.class.max_renewals (renewals_of article.item.loan))  -- renewals at least max_renewals
    ∷ [])

-- both, by what the patron owes
abbrev pub owing_refusals : ℕ → Bool → Member → Article → List (Verdict × Bool)
owing_refusals owes agreed member article = refusing (
    (reasons.MaxFees, nat_lt member.class.max_fees owes)  -- owed above max_fees
    ∷ (reasons.Rental, nat_lt 0 article.media.rental && not agreed)  -- a rental to which the user didn't agree
    ∷ [])

abbrev pub lending_list : Map → LoanRequest → Option Member → Option Article → List (Verdict × Bool)
lending_list M a patron item =
    refusing (unknown patron item)
    ++ if_known patron item (λ m x. early_lending a m x ++ owing_refusals (owed M m.patron.fees) a.agreed m x)

abbrev pub renewal_list : Map → LoanRequest → Option Member → Option Article → List (Verdict × Bool)
renewal_list M a patron item =
    refusing (unknown patron item)
    ++ if_known patron item (λ m x. early_renewal a m x ++ owing_refusals (owed M m.patron.fees) a.agreed m x)

-- CHECKINS

abbrev pub checkin_list : Option Article → List (Reason × Bool)
checkin_list item =
    (reasons.UnknownItem, not (is_some item))
    ∷ (reasons.WasIn, not (is_lent (loan_of item)))  -- it wasn't on loan
    ∷ []

-- HOLDS

-- of a known patron, who may be blocked, and a known item
abbrev pub hold_refusals : HoldMode → List ℕ → Bool → Item → List (Reason × Bool)
hold_refusals modes.Add patron blocked item =
    (reasons.Blocked, blocked)
    ∷ (reasons.HasEntry, waits patron item.holds)
    ∷ (reasons.OwnLoan, lent_to patron item.loan)
    ∷ (reasons.QueueFull, nat_le QUEUE_MAX (length item.holds))  -- 9,999 wait
    ∷ []
hold_refusals modes.Delete patron blocked item = (reasons.NoEntry, not (waits patron item.holds)) ∷ []
hold_refusals modes.Change patron blocked item = (reasons.NoEntry, not (waits patron item.holds)) ∷ []

-- by the rules no hold is forced; that the patron is blocked doesn't count for one that is
abbrev pub hold_list : Bool → HoldRequest → Option Member → Option Article → List (Reason × Bool)
hold_list forced q patron item =
    unknown patron item
    ++ if_known patron item (λ m x. hold_refusals q.mode q.patron (not forced && m.patron.blocked) x.item)

-- FEES PAID

-- of a known patron
abbrev pub payment_refusals : Terms → FeePaid → List (Reason × Bool)
payment_refusals p q =
    (reasons.Currency, not (same q.currency p.currency))  -- another currency than the policy's
    ∷ (reasons.NoAmount, q.amount == 0)
    ∷ []

abbrev pub payment_list : Terms → FeePaid → Option Member → List (Reason × Bool)
payment_list p q patron = (reasons.UnknownPatron, not (is_some patron)) ∷ payment_refusals p q
