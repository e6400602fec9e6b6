-- What checkouts and renewals have in common: what is asked for, who has the item, the due day and the charge, the answers.
use Rattle.std.specs.Prelude.{ℕ, Bool, true, false, ◌||◌, nat_lt, List, Option, Some, None, option_map, unwrap_or, if◌then◌else◌}
use Rattle.std.specs.Option.{option_map_or}
use Rattle.circ_policy.specs.Due.{due_day}
use Rattle.circ_policy.specs.Terms.{Terms}
use Rattle.circ_policy.specs.declared.media.Media.{Media}
use Rattle.circ_records.specs.declared.record.Item.{Item}
use Rattle.circ_records.specs.declared.record.Loan.{Loan}
use Rattle.sip_answer.specs.declared.answer.Answer.{Answer}
use Rattle.sip_answer.specs.declared.answer.Answer.TheVariants as answers
use Rattle.sip_answer.specs.declared.answer.KnownItem.{KnownItem}
use Rattle.sip_answer.specs.declared.answer.LoanAnswer.{LoanAnswer}
use Rattle.sip_answer.specs.declared.reason.Reason.{Reason}
use Rattle.sip_answer.specs.declared.reason.Reason.TheVariants as reasons
use Rattle.sip_reader.specs.Dates.{day_of}
use Rattle.sip_reader.specs.declared.request.Checkout.{Checkout}
use Rattle.sip_reader.specs.declared.request.Renew.{Renew}
use Rattle.read_set.specs.Effects.{unwritten}
use Rattle.read_set.specs.Ids.{same}
use Rattle.read_set.specs.declared.effect.Effect.{Effect}
use Rattle.read_set.specs.declared.known.Article.{Article}
use Rattle.read_set.specs.declared.verdict.LoanRequest.{LoanRequest}

-- WHAT IS ASKED FOR

-- a checkout is forced where no block is Y or BI is Y, and with BI Y no rental is charged; it allows no third party
abbrev pub by_checkout : Checkout → LoanRequest
by_checkout q = record { patron = q.patron; item = q.item; third_party = false; forced = q.no_block || q.cancel; given = q.due; agreed = q.agreed; price = if q.cancel then Some 0 else None; checkout = true }

-- a renewal is forced where no block is Y
abbrev pub by_renew : Renew → LoanRequest
by_renew q = record { patron = q.patron; item = q.item; third_party = q.third_party; forced = q.no_block; given = q.due; agreed = q.agreed; price = None; checkout = false }

-- the due day: a date that a forced request gives, even if not an open day; else by the policy
abbrev pub given_or : Bool → Option ℕ → ℕ → ℕ
given_or forced None day = day
given_or forced (Some given) day = if forced then given else day

unfoldable pub due_for : Terms → LoanRequest → List ℕ → Media → ℕ
due_for p a date media = given_or a.forced a.given (due_day p (day_of date) media)

-- what is charged: the price that the request names, else the media type's rental
abbrev pub charge_for : LoanRequest → Media → ℕ
charge_for a media = unwrap_or a.price media.rental

-- WHO HAS THE ITEM (the item alone decides)

abbrev pub is_lent : Option Loan → Bool
is_lent None = false
is_lent (Some loan) = true

abbrev pub lent_to : List ℕ → Option Loan → Bool
lent_to patron None = false
lent_to patron (Some loan) = same loan.patron patron

-- a loan of the patron, or of another where a third party is allowed
abbrev pub may_renew : LoanRequest → Option Loan → Bool
may_renew a None = false
may_renew a (Some loan) = same loan.patron a.patron || a.third_party

-- why a loan isn't the patron's to renew: there is none, or it is another's
abbrev pub not_own : Option Loan → Reason
not_own None = reasons.NotLent
not_own (Some loan) = reasons.ThirdParty

abbrev pub renewals_of : Option Loan → ℕ
renewals_of loan = option_map_or (λ l. l.renewals) loan 0

abbrev pub loan_of : Option Article → Option Loan
loan_of None = None
loan_of (Some article) = article.item.loan

-- ANSWERS

abbrev pub known_item : Item → KnownItem
known_item item = record { title = item.title; media = item.media; properties = item.properties }

-- a rental is named where it is above 0
abbrev pub rental_in_answer : ℕ → Option ℕ
rental_in_answer rental = if nat_lt 0 rental then Some rental else None

abbrev pub by_kind : Bool → LoanAnswer → Answer
by_kind true a = answers.Checkout a
by_kind false a = answers.Renew a

abbrev pub loan_answer_of : Terms → LoanRequest → List ℕ → Option KnownItem → Option ℕ → Bool → ℕ → Reason → LoanAnswer
loan_answer_of p a date known due renewed rental why = record {
  date = date;
  institution = p.institution;
  patron = a.patron;
  item = a.item;
  known = known;
  due = due;
  due_form = p.due_form;
  renewed = renewed;
  rental = rental_in_answer rental;
  reason = why;
  currency = p.currency;
}

abbrev pub loan_answer : Terms → LoanRequest → List ℕ → Option Item → Option ℕ → Bool → ℕ → Reason → Answer
loan_answer p a date item due renewed rental why = by_kind a.checkout (loan_answer_of p a date (option_map known_item item) due renewed rental why)

-- a rental for which the request is refused is named
abbrev pub rental_for : Reason → Option Article → ℕ
rental_for reasons.Rental (Some article) = article.media.rental
rental_for _ article = 0

-- nothing is written
unfoldable pub refused : Terms → LoanRequest → List ℕ → Option Article → Reason → Effect
refused p a date article why = unwritten (Some (loan_answer p a date (option_map (λ x. x.item) article) None false (rental_for why article) why))
