-- What is read of a recorded response of each kind (SIP 2.00), once: words in which it differs and
-- its deed follow from it.
use Rattle.std.specs.Prelude.{ℕ, Bool, ◌+◌, ◌&&◌, ◌==◌, not, nat_lt, List, length, drop, slice_index, Option, Some, None, Result, Ok, Err, if◌then◌else◌, codes}
use Rattle.sip_reader.specs.Bytes as byte
use Rattle.sip_reader.specs.Reading.{trimmed}
use Rattle.sip_reader.specs.Sum.{body}
use Rattle.sip_reader.specs.declared.request.Kind.{Kind}
use Rattle.sip_reader.specs.declared.request.Kind.TheVariants as kinds
use Rattle.sip_answer.specs.Recorded.{◌>>=◌, ok_of, flag_of, count_at, due_in, fee_in, items_in, placed_in, slashed_in, valid_in}
use Rattle.sip_answer.specs.declared.answer.PatronStatus.{PatronStatus}
use Rattle.sip_answer.specs.declared.field.Field.{Field}
use Rattle.sip_answer.specs.declared.field.Field.TheVariants as words
use Rattle.sip_answer.specs.declared.response.CheckinResponse.{CheckinResponse}
use Rattle.sip_answer.specs.declared.response.HoldResponse.{HoldResponse}
use Rattle.sip_answer.specs.declared.response.LoanResponse.{LoanResponse}
use Rattle.sip_answer.specs.declared.response.PatronResponse.{PatronResponse}
use Rattle.sip_answer.specs.declared.response.RenewAllResponse.{RenewAllResponse}

-- the identifier of the response to a request of a kind, and of the wish to have a message again
-- (SIP 2.00)
abbrev pub response_to : Kind → List ℕ
response_to kinds.BlockPatron = codes "24"
response_to kinds.Checkin = codes "10"
response_to kinds.Checkout = codes "12"
response_to kinds.Hold = codes "16"
response_to kinds.ItemStatus = codes "20"
response_to kinds.PatronEnable = codes "26"
response_to kinds.Renew = codes "30"
response_to kinds.FeePaid = codes "38"
response_to kinds.RenewAll = codes "66"

abbrev pub resend_id : List ℕ
resend_id = codes "96"

-- it begins with that identifier
abbrev pub has_id : List ℕ → List ℕ → Bool
has_id id m = (slice_index m 0 == slice_index id 0) && (slice_index m 1 == slice_index id 1)

-- a response without its error detection, if it has this identifier, or the word for what is there
-- in its place
unfoldable pub body_with : List ℕ → List ℕ → Result (List ℕ) Field
body_with id m =
    if nat_lt (length m) 2 then Err words.Unreadable
    else if not (has_id id m) then Err words.Kind
    else Ok m

-- the same of a recorded response
unfoldable pub response_with : List ℕ → List ℕ → Result (List ℕ) Field
response_with id recorded =
    if length (trimmed recorded) == 0 then Err words.Missing
    else body_with id (body (trimmed recorded))

-- The fixed parts of responses (SIP 2.00), each with its identifier: of a patron's status (a status
-- of fourteen bytes, a language, a date), of a checkin, a checkout and a renewal (four flags, a
-- date), of an item status update and a payment (one flag, a date), of a renewal of all items (a
-- flag, two counts, a date), and of a hold (two flags, a date).
abbrev pub patron_fixed : ℕ
patron_fixed = 37

abbrev pub loan_fixed : ℕ
loan_fixed = 24

abbrev pub short_fixed : ℕ
short_fixed = 21

abbrev pub renew_all_fixed : ℕ
renew_all_fixed = 29

abbrev pub hold_fixed : ℕ
hold_fixed = 22

-- where they say it: ok, or that a payment is accepted, after the identifier; that a loan was
-- renewed, or a hold is available, after that; the alert of a checkin as its last flag; the counts
-- of a renewal of all items
abbrev pub ok_byte : List ℕ → ℕ
ok_byte m = slice_index m 2

abbrev pub renewal_byte : List ℕ → ℕ
renewal_byte m = slice_index m 3

abbrev pub available_byte : List ℕ → ℕ
available_byte m = slice_index m 3

abbrev pub alert_byte : List ℕ → ℕ
alert_byte m = slice_index m 5

abbrev pub renewed_at : ℕ
renewed_at = 3

abbrev pub unrenewed_at : ℕ
unrenewed_at = 7

-- a position of a patron status is set (SIP 2.00)
abbrev pub is_set : ℕ → List ℕ → Bool
is_set position m = slice_index m (2 + position) == byte.Y

-- the positions of a patron status that can be set
unfoldable pub status_in : List ℕ → PatronStatus
status_in m = record {
  charge_denied = is_set 0 m;
  renewal_denied = is_set 1 m;
  hold_denied = is_set 3 m;
  too_many_items = is_set 5 m;
  excessive_fees = is_set 11 m;
}

-- Patron status response (24) and patron enable response (26).
unfoldable pub patron_in : List ℕ → Option PatronResponse
patron_in m =
    if nat_lt (length m) patron_fixed then None
    else Some (record { status = status_in m; valid = valid_in (drop patron_fixed m) })

-- Checkin response (10).
unfoldable pub checkin_in : List ℕ → Option CheckinResponse
checkin_in m = if nat_lt (length m) loan_fixed then None else do
  ok ← ok_of (ok_byte m)
  alert ← flag_of (alert_byte m)
  Some (record { ok = ok; alert = alert; placed = not ok && placed_in (drop loan_fixed m) })

-- Checkout response (12) and renew response (30).
unfoldable pub loan_in : List ℕ → Option LoanResponse
loan_in m = if nat_lt (length m) loan_fixed then None else do
  ok ← ok_of (ok_byte m)
  fee ← fee_in (drop loan_fixed m)
  Some (record {
    ok = ok;
    renewal = renewal_byte m == byte.Y;
    due = due_in (drop loan_fixed m);
    slashed = slashed_in (drop loan_fixed m);
    fee = fee;
  })

-- Item status update response (20): ok is 1 where the properties were stored, and any other byte
-- where not.
unfoldable pub item_status_in : List ℕ → Option Bool
item_status_in m = if nat_lt (length m) short_fixed then None else Some (ok_byte m == byte.one)

-- Fee paid response (38): whether the payment is accepted.
unfoldable pub fee_paid_in : List ℕ → Option Bool
fee_paid_in m = if nat_lt (length m) short_fixed then None else flag_of (ok_byte m)

-- Renew all response (66): BM for each renewed item, BN for each other one.
unfoldable pub renew_all_in : List ℕ → Option RenewAllResponse
renew_all_in m = if nat_lt (length m) renew_all_fixed then None else do
  ok ← ok_of (ok_byte m)
  renewed ← count_at renewed_at m
  unrenewed ← count_at unrenewed_at m
  Some (record {
    ok = ok;
    renewed = renewed;
    unrenewed = unrenewed;
    renewed_items = items_in byte.B byte.M (drop renew_all_fixed m);
    unrenewed_items = items_in byte.B byte.N (drop renew_all_fixed m);
  })

-- Hold response (16).
unfoldable pub hold_in : List ℕ → Option HoldResponse
hold_in m = if nat_lt (length m) hold_fixed then None else do
  ok ← ok_of (ok_byte m)
  available ← flag_of (available_byte m)
  Some (record { ok = ok; available = available })
