-- In which words a recorded response differs from an answer.
use Rattle.std.specs.Prelude.{◌≡◌, ℕ, Bool, true, false, ◌&&◌, ◌==◌, not, nat_lt, List, [], ◌∷◌, ◌++◌, length, Option, Some, None, Result, Ok, Err, unwrap_or, is_some, count_by, if◌then◌else◌}
use Rattle.std.specs.List.{list_all}
use Rattle.std.specs.Option.{option_map, option_map_or}
use Rattle.std.specs.Str.{bytes_eq}
use Rattle.sip_reader.specs.declared.request.Kind.{Kind}
use Rattle.sip_reader.specs.declared.request.Kind.TheVariants as kinds
use Rattle.sip_answer.specs.Parts.{count_max}
use Rattle.sip_answer.specs.Responses.{checkin_in, fee_paid_in, hold_in, item_status_in, loan_in, patron_in, renew_all_in, resend_id, response_to, response_with}
use Rattle.sip_answer.specs.declared.answer.Answer.{Answer}
use Rattle.sip_answer.specs.declared.answer.Answer.TheVariants as answers
use Rattle.sip_answer.specs.declared.answer.CheckinAnswer.{CheckinAnswer}
use Rattle.sip_answer.specs.declared.answer.FeePaidAnswer.{FeePaidAnswer}
use Rattle.sip_answer.specs.declared.answer.HoldAnswer.{HoldAnswer}
use Rattle.sip_answer.specs.declared.answer.ItemStatusAnswer.{ItemStatusAnswer}
use Rattle.sip_answer.specs.declared.answer.LoanAnswer.{LoanAnswer}
use Rattle.sip_answer.specs.declared.answer.PatronAnswer.{PatronAnswer}
use Rattle.sip_answer.specs.declared.answer.PatronStatus.{PatronStatus}
use Rattle.sip_answer.specs.declared.answer.RenewAllAnswer.{RenewAllAnswer}
use Rattle.sip_answer.specs.declared.field.Field.{Field}
use Rattle.sip_answer.specs.declared.field.Field.TheVariants as words
use Rattle.sip_answer.specs.declared.response.CheckinResponse.{CheckinResponse}
use Rattle.sip_answer.specs.declared.response.HoldResponse.{HoldResponse}
use Rattle.sip_answer.specs.declared.response.LoanResponse.{LoanResponse}
use Rattle.sip_answer.specs.declared.response.PatronResponse.{PatronResponse}
use Rattle.sip_answer.specs.declared.response.RenewAllResponse.{RenewAllResponse}

-- this word, unless the two agree
unfoldable pub word_unless : Field → Bool → List Field
word_unless word agree = if agree then [] else word ∷ []

-- both are yes or both no
abbrev pub is_same : Bool → Bool → Bool
is_same true b = b
is_same false b = not b

-- how often an item is in a list
unfoldable pub times_in : List (List ℕ) → List ℕ → ℕ
times_in items item = count_by (bytes_eq item) items

-- two lists hold the same items, each as often, in whatever order: sorted they are one list
unfoldable pub are_same_items : List (List ℕ) → List (List ℕ) → Bool
are_same_items xs ys = list_all (λ item. times_in xs item == times_in ys item) (xs ++ ys)

-- the positions of a patron status that are compared: 0, 1, 5 and 11
unfoldable pub is_same_status : PatronStatus → PatronStatus → Bool
is_same_status s t =
    is_same s.charge_denied t.charge_denied && (is_same s.renewal_denied t.renewal_denied
    && (is_same s.too_many_items t.too_many_items && is_same s.excessive_fees t.excessive_fees))

-- Patron status response (24) and patron enable response (26).
unfoldable pub patron_words : PatronAnswer → PatronResponse → List Field
patron_words a r =
    word_unless words.Status (is_same_status a.status r.status)
    ++ word_unless words.Valid (is_same (is_some a.known) r.valid)

-- Checkin response (10).
unfoldable pub checkin_words : CheckinAnswer → CheckinResponse → List Field
checkin_words a r =
    word_unless words.Ok (is_same (is_some a.known) r.ok)
    ++ word_unless words.Alert (is_same a.alert r.alert)

-- the day is compared where both oks are 1
unfoldable pub due_words : Option ℕ → Bool → Option ℕ → List Field
due_words None ok recorded = []
due_words (Some day) false recorded = []
due_words (Some day) true None = words.Due ∷ []
due_words (Some day) true (Some recorded) = word_unless words.Due (day == recorded)

-- the same amount, of which none is 0
abbrev pub is_same_fee : Option ℕ → Option ℕ → Bool
is_same_fee fee recorded = unwrap_or fee 0 == unwrap_or recorded 0

-- Checkout response (12) and renew response (30).
unfoldable pub loan_words : LoanAnswer → LoanResponse → List Field
loan_words a r =
    word_unless words.Ok (is_same (is_some a.due) r.ok)
    ++ due_words a.due r.ok r.due
    ++ word_unless words.Fee (is_same_fee a.rental r.fee)

-- Item status update response (20).
unfoldable pub item_status_words : ItemStatusAnswer → Bool → List Field
item_status_words a stored = word_unless words.Ok (is_same (is_some a.known) stored)

-- Fee paid response (38).
unfoldable pub fee_paid_words : FeePaidAnswer → Bool → List Field
fee_paid_words a accepted = word_unless words.Accepted (is_same a.accepted accepted)

-- the number that a count has in four digits
abbrev pub capped : ℕ → ℕ
capped n = if nat_lt count_max n then count_max else n

-- Renew all response (66).
unfoldable pub renew_all_words : RenewAllAnswer → RenewAllResponse → List Field
renew_all_words a r =
    word_unless words.Ok (is_same a.ok r.ok)
    ++ word_unless words.Renewed (capped (length a.renewed) == r.renewed)
    ++ word_unless words.Unrenewed (capped (length a.unrenewed) == r.unrenewed)
    ++ word_unless words.RenewedItems (are_same_items a.renewed r.renewed_items)
    ++ word_unless words.UnrenewedItems (are_same_items a.unrenewed r.unrenewed_items)

-- Hold response (16).
unfoldable pub hold_words : HoldAnswer → HoldResponse → List Field
hold_words a r =
    word_unless words.Ok (is_same a.ok r.ok)
    ++ word_unless words.Available (is_same a.available r.available)

-- the words by which a response of the right kind differs; none where what is compared can't be
-- read
abbrev pub words_of : Answer → List ℕ → Option (List Field)
words_of (answers.BlockPatron a) m = option_map (patron_words a) (patron_in m)
words_of (answers.Checkin a) m = option_map (checkin_words a) (checkin_in m)
words_of (answers.Checkout a) m = option_map (loan_words a) (loan_in m)
words_of (answers.Hold a) m = option_map (hold_words a) (hold_in m)
words_of (answers.ItemStatus a) m = option_map (item_status_words a) (item_status_in m)
words_of (answers.PatronEnable a) m = option_map (patron_words a) (patron_in m)
words_of (answers.Renew a) m = option_map (loan_words a) (loan_in m)
words_of (answers.FeePaid a) m = option_map (fee_paid_words a) (fee_paid_in m)
words_of (answers.RenewAll a) m = option_map (renew_all_words a) (renew_all_in m)
words_of answers.Resend m = Some []

-- the kind of request that it answers; the wish to have a message again answers none
abbrev pub kind_answered : Answer → Option Kind
kind_answered (answers.BlockPatron a) = Some kinds.BlockPatron
kind_answered (answers.Checkin a) = Some kinds.Checkin
kind_answered (answers.Checkout a) = Some kinds.Checkout
kind_answered (answers.Hold a) = Some kinds.Hold
kind_answered (answers.ItemStatus a) = Some kinds.ItemStatus
kind_answered (answers.PatronEnable a) = Some kinds.PatronEnable
kind_answered (answers.Renew a) = Some kinds.Renew
kind_answered (answers.FeePaid a) = Some kinds.FeePaid
kind_answered (answers.RenewAll a) = Some kinds.RenewAll
kind_answered answers.Resend = None

-- the identifier of the response (SIP 2.00)
abbrev pub identifier_of : Answer → List ℕ
identifier_of a = option_map_or response_to (kind_answered a) resend_id

-- the words by which what is there differs: that of a response of the wrong kind alone
abbrev pub words_in : Answer → Result (List ℕ) Field → List Field
words_in a (Err word) = word ∷ []
words_in a (Ok m) = unwrap_or (words_of a m) (words.Unreadable ∷ [])

-- The words by which a recorded response differs from an answer, in their order (the profile of
-- this project).
unfoldable pub differ : Answer → List ℕ → List Field
differ a recorded = words_in a (response_with (identifier_of a) recorded)

-- the recorded response agrees with the answer
abbrev pub Agrees : Answer → List ℕ → Type 0
Agrees a recorded = differ a recorded ≡ []
