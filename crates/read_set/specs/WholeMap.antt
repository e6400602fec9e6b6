-- What each message does to the records as a whole map M, and what it answers: by the first test of
-- Rules that holds. Nothing here asks for a record.
use Rattle.std.specs.Prelude.{ℕ, Bool, true, false, ◌&&◌, List, [], Option, Some, None, is_some, option_map, if◌then◌else◌}
use Rattle.std.specs.List.{fold}
use Rattle.circ_policy.specs.Terms.{Terms}
use Rattle.circ_records.specs.declared.record.Loan.{Loan}
use Rattle.sip_answer.specs.declared.answer.Answer.TheVariants as answers
use Rattle.sip_answer.specs.declared.deed.Deed.{Deed}
use Rattle.sip_answer.specs.declared.deed.Deed.TheVariants as deeds
use Rattle.sip_answer.specs.declared.deed.ToldLoan.{ToldLoan}
use Rattle.sip_answer.specs.declared.reason.Reason.{Reason}
use Rattle.sip_answer.specs.declared.reason.Reason.TheVariants as reasons
use Rattle.sip_reader.specs.declared.request.Act.{Act}
use Rattle.sip_reader.specs.declared.request.Act.TheVariants as acts
use Rattle.sip_reader.specs.declared.request.Checkin.{Checkin}
use Rattle.sip_reader.specs.declared.request.Checkout.{Checkout}
use Rattle.sip_reader.specs.declared.request.FeePaid.{FeePaid}
use Rattle.sip_reader.specs.declared.request.HoldRequest.{HoldRequest}
use Rattle.sip_reader.specs.declared.request.ItemStatus.{ItemStatus}
use Rattle.sip_reader.specs.declared.request.Reading.{Reading}
use Rattle.sip_reader.specs.declared.request.Reading.TheVariants as readings
use Rattle.sip_reader.specs.declared.request.Renew.{Renew}
use Rattle.sip_reader.specs.declared.request.RenewAll.{RenewAll}
use Rattle.read_set.specs.AsRecorded.{agrees_with, answering, as_told}
use Rattle.read_set.specs.Blocks.{block_answer, blocked_by, no_status, patron_answer}
use Rattle.read_set.specs.Checkins.{checkin_answer, returned}
use Rattle.read_set.specs.Checkouts.{lending_made}
use Rattle.read_set.specs.Effects.{unwritten}
use Rattle.read_set.specs.Fees.{owed}
use Rattle.read_set.specs.Holds.{hold_answer, hold_kept, queue_after}
use Rattle.read_set.specs.Ids.{same}
use Rattle.read_set.specs.ItemStatuses.{updated}
use Rattle.read_set.specs.Known.{borrower_in, fee_in, item_in, patron_in}
use Rattle.read_set.specs.Loans.{by_checkout, by_renew, loan_of, may_renew, refused}
use Rattle.read_set.specs.Maps.{Map, put}
use Rattle.read_set.specs.Payments.{all_paid, meant, pay_one, payment_answer}
use Rattle.read_set.specs.RenewAlls.{all_renewed, by_renew_all, none_renewed, one_left, one_renewed, renew_all_answer, turns_of}
use Rattle.read_set.specs.Renewals.{renewal_made}
use Rattle.read_set.specs.Rules.{checkin_list, hold_list, lending_list, payment_list, renewal_list}
use Rattle.read_set.specs.Tests.{first_of, first_or}
use Rattle.read_set.specs.declared.effect.Effect.{Effect}
use Rattle.read_set.specs.declared.known.Article.{Article}
use Rattle.read_set.specs.declared.known.Member.{Member}
use Rattle.read_set.specs.declared.progress.Payments.{Payments}
use Rattle.read_set.specs.declared.progress.Renewals.{Renewals}
use Rattle.read_set.specs.declared.verdict.LoanRequest.{LoanRequest}
use Rattle.read_set.specs.declared.verdict.Verdict.{Verdict}
use Rattle.read_set.specs.declared.verdict.Verdict.TheVariants as verdicts

-- (An effect of somebody or something unknown that isn't refused is here only since a definition
-- names every case: the first tests refuse it.)

-- CHECKOUTS AND RENEWALS

abbrev pub loan_effect : Terms → LoanRequest → List ℕ → (Member → Article → Effect) → Option Member → Option Article → Verdict → Effect
loan_effect p a date made patron item (verdicts.Refused why) = refused p a date item why
loan_effect p a date made (Some member) (Some article) verdicts.Made = made member article
loan_effect p a date made (Some member) None verdicts.Made = unwritten None
loan_effect p a date made None item verdicts.Made = unwritten None

-- the other patron whose loan ends
abbrev pub other_in : Terms → Map → List ℕ → Option Loan → Option Member
other_in p M patron None = None
other_in p M patron (Some loan) = if same loan.patron patron then None else patron_in p M loan.patron

abbrev pub lending : Terms → ℕ → LoanRequest → List ℕ → Map → Option Member → Option Article → Effect
lending p n a date M patron item =
    loan_effect p a date (λ m x. lending_made p n a date m x (other_in p M a.patron x.item.loan)) patron item
    (first_or (lending_list M a patron item) verdicts.Made)

abbrev pub renewing : Terms → ℕ → LoanRequest → List ℕ → Map → Option Member → Option Article → Effect
renewing p n a date M patron item =
    loan_effect p a date (λ m x. renewal_made p n a date m x) patron item (first_or (renewal_list M a patron item) verdicts.Made)

-- a checkout of what is on loan to the same patron is a renewal, if the terminal allows it (SC renewal policy)
abbrev pub lending_or_renewing : Terms → ℕ → Bool → LoanRequest → List ℕ → Map → Option Member → Option Article → Effect
lending_or_renewing p n renewal a date M patron item =
    if renewal && may_renew a (loan_of item) then renewing p n a date M patron item else lending p n a date M patron item

unfoldable pub checkout_for : Terms → ℕ → Bool → LoanRequest → List ℕ → Map → Effect
checkout_for p n renewal a date M = lending_or_renewing p n renewal a date M (patron_in p M a.patron) (item_in p M a.item)

abbrev pub checkout : Terms → ℕ → Checkout → List ℕ → Map → Effect
checkout p n q date M = checkout_for p n q.renewal (by_checkout q) date M

unfoldable pub renew : Terms → ℕ → Renew → List ℕ → Map → Effect
renew p n q date M = renewing p n (by_renew q) date M (patron_in p M q.patron) (item_in p M q.item)

-- CHECKINS

abbrev pub checkin_effect : Terms → ℕ → Checkin → List ℕ → Option Article → Option Member → Option Reason → Effect
checkin_effect p n q date item borrower (Some why) = unwritten (Some (checkin_answer p q date (option_map (λ x. x.item) item) None why))
checkin_effect p n q date (Some article) borrower None = returned p n q date article borrower article.item.loan
checkin_effect p n q date None borrower None = unwritten None

abbrev pub checkin_of : Terms → ℕ → Checkin → List ℕ → Map → Option Article → Effect
checkin_of p n q date M item = checkin_effect p n q date item (borrower_in p M (loan_of item)) (first_of (checkin_list item))

unfoldable pub checkin : Terms → ℕ → Checkin → List ℕ → Map → Effect
checkin p n q date M = checkin_of p n q date M (item_in p M q.item)

-- HOLDS

abbrev pub hold_effect : Terms → HoldRequest → List ℕ → Option Article → Option Reason → Effect
hold_effect p q date item (Some why) = unwritten (Some (hold_answer p q date (option_map (λ x. x.item.title) item) why false None))
hold_effect p q date (Some article) None = hold_kept p q date article.item (queue_after q article.item.holds q.mode)
hold_effect p q date None None = unwritten None

abbrev pub hold_of : Terms → Bool → HoldRequest → List ℕ → Option Member → Option Article → Effect
hold_of p forced q date patron item = hold_effect p q date item (first_of (hold_list forced q patron item))

unfoldable pub hold : Terms → Bool → HoldRequest → List ℕ → Map → Effect
hold p forced q date M = hold_of p forced q date (patron_in p M q.patron) (item_in p M q.item)

-- FEES PAID

-- the fees that are meant, in order, each on the records as those before it left them
abbrev pub paid_in_turn : Map → FeePaid → List (List ℕ) → Payments
paid_in_turn M q fees =
    fold (λ done id. pay_one id done (fee_in (put done.writes M) id)) (record { left = q.amount; writes = []; closed = [] }) (meant M q.fee fees)

abbrev pub payment_effect : Terms → FeePaid → List ℕ → Map → Option Member → Option Reason → Effect
payment_effect p q date M patron (Some why) = unwritten (Some (payment_answer p q date why))
payment_effect p q date M (Some member) None = all_paid p q date member.patron (paid_in_turn M q member.patron.fees)
payment_effect p q date M None None = unwritten None

abbrev pub fee_paid_of : Terms → FeePaid → List ℕ → Map → Option Member → Effect
fee_paid_of p q date M patron = payment_effect p q date M patron (first_of (payment_list p q patron))

unfoldable pub fee_paid : Terms → FeePaid → List ℕ → Map → Effect
fee_paid p q date M = fee_paid_of p q date M (patron_in p M q.patron)

-- RENEWALS OF ALL

-- an item's turn, on the records as those before it left them: by the rules of a renewal
abbrev pub turn_effect : Terms → ℕ → LoanRequest → List ℕ → Renewals → Option Article → Verdict → Renewals
turn_effect p n a date done item (verdicts.Refused why) = one_left a.item why done
turn_effect p n a date done (Some article) verdicts.Made = one_renewed p n a date article done
turn_effect p n a date done None verdicts.Made = done

abbrev pub turn_of : Terms → ℕ → LoanRequest → List ℕ → Map → Renewals → Option Article → Renewals
turn_of p n a date now done item = turn_effect p n a date done item (first_or (renewal_list now a (Some done.member) item) verdicts.Made)

abbrev pub turn : Terms → ℕ → LoanRequest → List ℕ → Map → Renewals → Renewals
turn p n a date M done = turn_of p n a date (put done.writes M) done (item_in p (put done.writes M) a.item)

abbrev pub renew_all_of : Terms → ℕ → Option (List (List ℕ)) → RenewAll → List ℕ → Map → Option Member → Effect
renew_all_of p n named q date M None = unwritten (Some (renew_all_answer p date reasons.UnknownPatron [] [] []))
renew_all_of p n named q date M (Some member) = all_renewed p q date
    (fold (λ done id. turn p n (by_renew_all (is_some named) q id) date M done) (none_renewed member) (turns_of named member.patron.loans))

unfoldable pub renew_all : Terms → ℕ → Option (List (List ℕ)) → RenewAll → List ℕ → Map → Effect
renew_all p n named q date M = renew_all_of p n named q date M (patron_in p M q.patron)

-- BLOCKS, ENABLES, ITEM STATUS UPDATES

abbrev pub block_of : Terms → Bool → List ℕ → List ℕ → Map → Option Member → Effect
block_of p blocks id date M None = unwritten (Some (block_answer blocks (patron_answer p id date no_status None reasons.UnknownPatron)))
block_of p blocks id date M (Some member) = blocked_by p blocks id date member (owed M member.patron.fees)

unfoldable pub block : Terms → Bool → List ℕ → List ℕ → Map → Effect
block p blocks id date M = block_of p blocks id date M (patron_in p M id)

unfoldable pub item_status : Terms → ItemStatus → List ℕ → Map → Effect
item_status p q date M = updated q date (item_in p M q.item)

-- A REQUEST

abbrev pub act_effect : Terms → ℕ → List ℕ → Act → Map → Effect
act_effect p n date (acts.BlockPatron q) M = block p true q.patron date M
act_effect p n date (acts.Checkin q) M = checkin p n q date M
act_effect p n date (acts.Checkout q) M = checkout p n q date M
act_effect p n date (acts.Hold q) M = hold p false q date M
act_effect p n date (acts.ItemStatus q) M = item_status p q date M
act_effect p n date (acts.PatronEnable q) M = block p false q.patron date M
act_effect p n date (acts.Renew q) M = renew p n q date M
act_effect p n date (acts.FeePaid q) M = fee_paid p q date M
act_effect p n date (acts.RenewAll q) M = renew_all p n None q date M

-- AS RECORDED: what a response says was done (AsRecorded says why each is as it is)

abbrev pub loan_as_told : Terms → ℕ → List ℕ → Act → ToldLoan → Map → Effect
loan_as_told p n date (acts.Checkout q) t M = checkout_for p n t.renewal (as_told (by_checkout q) t) date M
loan_as_told p n date (acts.Renew q) t M = checkout_for p n true (as_told (by_renew q) t) date M
loan_as_told p n date act t M = unwritten None

abbrev pub hold_as_told : Terms → List ℕ → Act → Map → Effect
hold_as_told p date (acts.Hold q) M = hold p true q date M
hold_as_told p date act M = unwritten None

abbrev pub renewals_as_told : Terms → ℕ → List ℕ → Act → List (List ℕ) → Map → Effect
renewals_as_told p n date (acts.RenewAll q) named M = renew_all p n (Some named) q date M
renewals_as_told p n date act named M = unwritten None

-- what is carried out if the rule's answer doesn't agree with the deed
abbrev pub carried_out : Terms → ℕ → List ℕ → Act → Deed → Map → Effect
carried_out p n date act deeds.NotTaken M = unwritten None
carried_out p n date act (deeds.Said false) M = unwritten None
carried_out p n date act (deeds.Said true) M = hold_as_told p date act M
carried_out p n date act deeds.Refused M = unwritten None
carried_out p n date act (deeds.Lent t) M = loan_as_told p n date act t M
carried_out p n date act (deeds.Renewed named) M = renewals_as_told p n date act named M

-- if the rule's answer agrees with the deed, the rule's own writes count; the answer stays the rule's
abbrev pub followed_by : Terms → ℕ → List ℕ → Act → Deed → Map → Effect → Effect
followed_by p n date act o M ruled =
    if agrees_with ruled.answer o then ruled else answering ruled.answer (carried_out p n date act o M)

-- A LINE

-- by the rules, or as a deed of the line says
abbrev pub effect_with : Terms → ℕ → List ℕ → Act → Option Deed → Map → Effect
effect_with p n date act None M = act_effect p n date act M
effect_with p n date act (Some o) M = followed_by p n date act o M (act_effect p n date act M)

-- Error Detection (SIP 2.00): a line with a wrong sum changes nothing and asks for the message again.
-- A passed or unread line changes nothing and has no answer.
unfoldable pub line_effect : Terms → ℕ → Reading → Option Deed → Map → Effect
line_effect p n (readings.Asked q) o M = effect_with p n q.date q.act o M
line_effect p n readings.BadSum o M = unwritten (Some answers.Resend)
line_effect p n (readings.Passed why) o M = unwritten None
line_effect p n (readings.Unread why) o M = unwritten None
