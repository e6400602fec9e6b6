-- The bytes of an answer: which fixed parts and fields each response has, in their order.
use Rattle.std.specs.Prelude.{ℕ, List, [], ◌++◌, length, Option, is_some, codes, decimal}
use Rattle.std.specs.Option.{option_map, option_map_or}
use Rattle.sip_reader.specs.Amounts.{amount_text}
use Rattle.circ_policy.specs.Medias.{media_code}
use Rattle.sip_answer.specs.declared.answer.Answer.{Answer}
use Rattle.sip_answer.specs.declared.answer.Answer.TheVariants as answers
use Rattle.sip_answer.specs.declared.answer.CheckinAnswer.{CheckinAnswer}
use Rattle.sip_answer.specs.declared.answer.FeePaidAnswer.{FeePaidAnswer}
use Rattle.sip_answer.specs.declared.answer.HoldAnswer.{HoldAnswer}
use Rattle.sip_answer.specs.declared.answer.QueuePosition.{QueuePosition}
use Rattle.sip_answer.specs.declared.answer.ItemStatusAnswer.{ItemStatusAnswer}
use Rattle.sip_answer.specs.declared.answer.LoanAnswer.{LoanAnswer}
use Rattle.sip_answer.specs.declared.answer.PatronAnswer.{PatronAnswer}
use Rattle.sip_answer.specs.declared.answer.PatronStatus.{PatronStatus}
use Rattle.sip_answer.specs.declared.answer.RenewAllAnswer.{RenewAllAnswer}
use Rattle.sip_answer.specs.DueDates.{due_text}
use Rattle.sip_answer.specs.Parts.{field, given, filled, each, digit, flag, mark, count, with_sequence}

-- Patron status (SIP 2.00), fourteen positions: 0 charge privileges denied, 1 renewal denied, 3
-- hold denied, 5 too many items charged, 11 excessive fees. The others aren't set.
abbrev pub status_text : PatronStatus → List ℕ
status_text s =
    mark s.charge_denied ++ mark s.renewal_denied ++ codes " " ++ mark s.hold_denied ++ codes " "
    ++ mark s.too_many_items ++ codes "     " ++ mark s.excessive_fees ++ codes "  "

-- a currency and an amount
abbrev pub money : List ℕ → ℕ → List ℕ
money currency hundredths = field (codes "BH") currency ++ field (codes "BV") (amount_text hundredths)

-- Patron status response (24) and patron enable response (26) up to the valid patron.
abbrev pub patron_text : List ℕ → PatronAnswer → List ℕ
patron_text id a =
    id ++ status_text a.status ++ codes "000" ++ a.date
    ++ field (codes "AO") a.institution
    ++ field (codes "AA") a.patron
    ++ field (codes "AE") (option_map_or (λ p. p.name) a.known [])
    ++ field (codes "BL") (flag (is_some a.known))

-- what a known patron owes
abbrev pub owed_text : PatronAnswer → List ℕ
owed_text a = option_map_or (λ p. money a.currency p.owed) a.known []

-- Checkin response (10).
abbrev pub checkin_text : CheckinAnswer → List ℕ
checkin_text a =
    codes "10" ++ digit (is_some a.known) ++ flag (is_some a.known) ++ codes "U" ++ flag a.alert ++ a.date
    ++ field (codes "AO") a.institution
    ++ field (codes "AB") a.item
    ++ field (codes "AQ") (option_map_or (λ i. i.location) a.known [])
    ++ given (codes "AJ") (option_map (λ i. i.title) a.known)
    ++ given (codes "AA") a.borrower
    ++ given (codes "CK") (option_map (λ i. media_code i.media) a.known)
    ++ filled (codes "CH") (option_map_or (λ i. i.properties) a.known [])

-- Checkout response (12) and renew response (30). Fee type 06 is a rental.
abbrev pub loan_text : List ℕ → LoanAnswer → List ℕ
loan_text id a =
    id ++ digit (is_some a.due) ++ flag a.renewed ++ codes "U" ++ flag (is_some a.due) ++ a.date
    ++ field (codes "AO") a.institution
    ++ field (codes "AA") a.patron
    ++ field (codes "AB") a.item
    ++ field (codes "AJ") (option_map_or (λ i. i.title) a.known [])
    ++ field (codes "AH") (option_map_or (due_text a.due_form) a.due [])
    ++ option_map_or (λ rental. field (codes "BT") (codes "06") ++ money a.currency rental) a.rental []
    ++ given (codes "CK") (option_map (λ i. media_code i.media) a.known)
    ++ filled (codes "CH") (option_map_or (λ i. i.properties) a.known [])

-- Item status update response (20).
abbrev pub item_status_text : ItemStatusAnswer → List ℕ
item_status_text a =
    codes "20" ++ digit (is_some a.known) ++ a.date
    ++ field (codes "AB") a.item
    ++ given (codes "AJ") (option_map (λ i. i.title) a.known)
    ++ filled (codes "CH") (option_map_or (λ i. i.properties) a.known [])

-- Fee paid response (38).
abbrev pub fee_paid_text : FeePaidAnswer → List ℕ
fee_paid_text a =
    codes "38" ++ flag a.accepted ++ a.date
    ++ field (codes "AO") a.institution
    ++ field (codes "AA") a.patron

-- Renew all response (66).
abbrev pub renew_all_text : RenewAllAnswer → List ℕ
renew_all_text a =
    codes "66" ++ digit a.ok ++ count (length a.renewed) ++ count (length a.unrenewed) ++ a.date
    ++ field (codes "AO") a.institution
    ++ each (codes "BM") a.renewed
    ++ each (codes "BN") a.unrenewed

-- the position in a queue, and where the item is picked up
abbrev pub position_text : QueuePosition → List ℕ
position_text position = field (codes "BR") (decimal position.number) ++ filled (codes "BS") position.pickup

-- Hold response (16).
abbrev pub hold_text : HoldAnswer → List ℕ
hold_text a =
    codes "16" ++ digit a.ok ++ flag a.available ++ a.date
    ++ option_map_or position_text a.position []
    ++ field (codes "AO") a.institution
    ++ field (codes "AA") a.patron
    ++ field (codes "AB") a.item
    ++ given (codes "AJ") a.title

-- Request SC resend (96): its sum is always the same, and it has no sequence digit.
abbrev pub resend_text : List ℕ
resend_text = codes "96AZFEF6"

-- The bytes of an answer to a request with this sequence digit.
unfoldable pub answer_text : Answer → Option ℕ → List ℕ
answer_text (answers.BlockPatron a) sequence = with_sequence (patron_text (codes "24") a ++ owed_text a) sequence
answer_text (answers.Checkin a) sequence = with_sequence (checkin_text a) sequence
answer_text (answers.Checkout a) sequence = with_sequence (loan_text (codes "12") a) sequence
answer_text (answers.Hold a) sequence = with_sequence (hold_text a) sequence
answer_text (answers.ItemStatus a) sequence = with_sequence (item_status_text a) sequence
answer_text (answers.PatronEnable a) sequence = with_sequence (patron_text (codes "26") a) sequence
answer_text (answers.Renew a) sequence = with_sequence (loan_text (codes "30") a) sequence
answer_text (answers.FeePaid a) sequence = with_sequence (fee_paid_text a) sequence
answer_text (answers.RenewAll a) sequence = with_sequence (renew_all_text a) sequence
answer_text answers.Resend sequence = resend_text
