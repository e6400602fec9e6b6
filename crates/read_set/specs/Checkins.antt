-- Checkin (SIP 2.00, message 09), by the circulation rules: checkin. The no block flag changes nothing; a rental isn't refunded.
use Rattle.std.specs.Prelude.{ℕ, false, ◌&&◌, nat_lt, is_some, List, [], ◌∷◌, ◌++◌, Option, Some, None, option_map, unwrap_or, if◌then◌else◌}
use Rattle.std.specs.Option.{option_map_or}
use Rattle.circ_policy.specs.Fees.{late_fee}
use Rattle.circ_policy.specs.Terms.{Terms}
use Rattle.circ_policy.specs.declared.media.Media.{Media}
use Rattle.circ_records.specs.Records.{Entries}
use Rattle.circ_records.specs.declared.key.Key.TheVariants as keys
use Rattle.circ_records.specs.declared.record.FeeType.TheVariants as fee_types
use Rattle.circ_records.specs.declared.record.Item.{Item}
use Rattle.circ_records.specs.declared.record.Loan.{Loan}
use Rattle.circ_records.specs.declared.record.Patron.{Patron}
use Rattle.circ_records.specs.declared.record.Record.TheVariants as records
use Rattle.sip_answer.specs.declared.answer.Answer.{Answer}
use Rattle.sip_answer.specs.declared.answer.Answer.TheVariants as answers
use Rattle.sip_answer.specs.declared.answer.ReturnedItem.{ReturnedItem}
use Rattle.sip_answer.specs.declared.reason.Reason.{Reason}
use Rattle.sip_answer.specs.declared.reason.Reason.TheVariants as reasons
use Rattle.sip_reader.specs.Dates.{day_of}
use Rattle.sip_reader.specs.declared.request.Checkin.{Checkin}
use Rattle.read_set.specs.Asks.{Asks, Give, ◌>>=◌}
use Rattle.read_set.specs.Effects.{unwritten, writing, ◌⊕◌}
use Rattle.read_set.specs.Fees.{fee_made, with_fee}
use Rattle.read_set.specs.Ids.{without}
use Rattle.read_set.specs.Loans.{loan_of}
use Rattle.read_set.specs.Lookups.{item_at, borrower_at}
use Rattle.read_set.specs.Queues.{has_queue}
use Rattle.read_set.specs.declared.effect.Effect.{Effect}
use Rattle.read_set.specs.declared.known.Article.{Article}
use Rattle.read_set.specs.declared.known.Member.{Member}

abbrev pub returned_item : Item → ReturnedItem
returned_item item = record { location = item.location; title = item.title; media = item.media; properties = item.properties }

-- the alert says that somebody waits for the item, also where it wasn't on loan
abbrev pub checkin_answer : Terms → Checkin → List ℕ → Option Item → Option (List ℕ) → Reason → Answer
checkin_answer p q date known borrower why = answers.Checkin (record {
  date = date;
  institution = p.institution;
  item = q.item;
  known = option_map returned_item known;
  borrower = borrower;
  alert = option_map_or (λ item. has_queue item.holds) known false;
  reason = why;
})

-- the day back: the return date where it is a date, else the transaction date
abbrev pub day_back : Checkin → List ℕ → ℕ
day_back q date = unwrap_or q.back (day_of date)

-- the late fee of a loan; none with BI Y
abbrev pub lateness : Checkin → List ℕ → Loan → Media → ℕ
lateness q date loan media = if q.cancel then 0 else late_fee loan.due (day_back q date) media

-- the item leaves the borrower's list, and a fee above 0 is charged; a borrower that counts as unknown is neither
-- written nor charged
abbrev pub returner : ℕ → List ℕ → ℕ → Patron → Patron
returner n item fee patron = record patron { loans = without item patron.loans; fees = with_fee n 0 fee patron.fees }

abbrev pub returned_by : ℕ → List ℕ → List ℕ → ℕ → Option Member → Entries
returned_by n item borrower fee None = []
returned_by n item borrower fee (Some member) =
    (keys.Patron borrower, records.Patron (returner n item fee member.patron)) ∷ [] ++ fee_made n 0 borrower fee_types.Overdue fee

abbrev pub returned_writes : ℕ → List ℕ → ℕ → Article → Option Member → Loan → Entries
returned_writes n item fee article borrower loan =
    [] ⊕ returned_by n item loan.patron fee borrower ⊕ ((keys.Item item, records.Item (record article.item { loan = None })) ∷ [])

-- a borrower that counts as unknown isn't charged
abbrev pub return_reason : Option Member → ℕ → Reason
return_reason borrower fee = if is_some borrower && nat_lt 0 fee then reasons.ReturnedLate else reasons.Returned

-- an item that isn't on loan stays as it is; else its loan ends
abbrev pub returned : Terms → ℕ → Checkin → List ℕ → Article → Option Member → Option Loan → Effect
returned p n q date article borrower None = unwritten (Some (checkin_answer p q date (Some article.item) None reasons.WasIn))
returned p n q date article borrower (Some loan) = writing
    (returned_writes n q.item (lateness q date loan article.media) article borrower loan)
    (checkin_answer p q date (Some article.item) (Some loan.patron) (return_reason borrower (lateness q date loan article.media)))

-- an unknown item is refused
unfoldable pub checked_in : Terms → ℕ → Checkin → List ℕ → Option Article → Option Member → Effect
checked_in p n q date None borrower = unwritten (Some (checkin_answer p q date None None reasons.UnknownItem))
checked_in p n q date (Some article) borrower = returned p n q date article borrower article.item.loan

-- asks for the item, then for the borrower where it is on loan
unfoldable pub checkin_rule : Terms → ℕ → Checkin → List ℕ → Asks Effect
checkin_rule p n q date = do
  item ← item_at p q.item
  borrower ← borrower_at p (loan_of item)
  Give (checked_in p n q date item borrower)
