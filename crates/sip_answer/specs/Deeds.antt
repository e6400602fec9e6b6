-- What a recorded response says was done, beside what the rules say, and which answers agree with
-- that.
use Rattle.std.specs.Prelude.{◌≡◌, ◌≤◌, ℕ, Bool, true, false, ◌&&◌, ◌==◌, not, nat_lt, List, length, Option, Some, None, Result, Ok, Err, IfSome, is_ok, is_some, if◌then◌else◌}
use Rattle.std.specs.List.{list_any}
use Rattle.std.specs.Option.{option_and_then, option_map}
use Rattle.std.specs.Str.{bytes_eq}
use Rattle.circ_policy.specs.declared.due_form.DueForm.{DueForm}
use Rattle.circ_policy.specs.declared.due_form.DueForm.TheVariants as form
use Rattle.sip_reader.specs.Days.{IsDay}
use Rattle.sip_reader.specs.Words.{kind_of}
use Rattle.sip_reader.specs.declared.amount.TheConstants.{AMOUNT_MAX}
use Rattle.sip_reader.specs.declared.request.Act.{Act}
use Rattle.sip_reader.specs.declared.request.Kind.{Kind}
use Rattle.sip_reader.specs.declared.request.Kind.TheVariants as kinds
use Rattle.sip_answer.specs.Differ.{are_same_items, identifier_of, is_same, is_same_fee}
use Rattle.sip_answer.specs.Responses.{checkin_in, fee_paid_in, hold_in, item_status_in, loan_in, renew_all_in, resend_id, response_to, response_with}
use Rattle.sip_answer.specs.declared.answer.Answer.{Answer}
use Rattle.sip_answer.specs.declared.answer.Answer.TheVariants as answers
use Rattle.sip_answer.specs.declared.answer.LoanAnswer.{LoanAnswer}
use Rattle.sip_answer.specs.declared.field.Field.{Field}
use Rattle.sip_answer.specs.declared.deed.Deed.{Deed}
use Rattle.sip_answer.specs.declared.deed.Deed.TheVariants as deeds
use Rattle.sip_answer.specs.declared.response.CheckinResponse.{CheckinResponse}
use Rattle.sip_answer.specs.declared.response.HoldResponse.{HoldResponse}
use Rattle.sip_answer.specs.declared.response.LoanResponse.{LoanResponse}
use Rattle.sip_answer.specs.declared.response.RenewAllResponse.{RenewAllResponse}

-- A checkin that is refused with the item's place named says nothing: the item was looked at, and
-- isn't lent.
unfoldable pub checkin_deed : CheckinResponse → Option Deed
checkin_deed r = if r.placed then None else Some (deeds.Said r.ok)

-- the form with slashes
abbrev pub is_us : DueForm → Bool
is_us form.Us = true
is_us form.Sip = false
is_us form.Iso = false

-- a due date with slashes names a day only if the policy writes due dates so: elsewhere its day may
-- come before its month
unfoldable pub told_day : DueForm → LoanResponse → Option ℕ
told_day f r = if r.slashed && not (is_us f) then None else r.due

unfoldable pub loan_deed : DueForm → LoanResponse → Deed
loan_deed f r =
    if r.ok then deeds.Lent (record { due = told_day f r; fee = r.fee; renewal = r.renewal })
    else deeds.Refused

-- Renewed are the items that are named, whatever ok is; nothing is said if ok is 1 and fewer are
-- named than counted.
unfoldable pub renew_all_deed : RenewAllResponse → Option Deed
renew_all_deed r =
    if r.ok && nat_lt (length r.renewed_items) r.renewed then None
    else Some (deeds.Renewed r.renewed_items)

-- what a response to a request of a kind says was done: nothing if it can't be read
abbrev pub deed_by : DueForm → Kind → List ℕ → Option Deed
deed_by f kinds.BlockPatron m = None
deed_by f kinds.Checkin m = option_and_then checkin_deed (checkin_in m)
deed_by f kinds.Checkout m = option_map (loan_deed f) (loan_in m)
deed_by f kinds.Hold m = option_map (λ (r : HoldResponse). deeds.Said r.ok) (hold_in m)
deed_by f kinds.ItemStatus m = option_map deeds.Said (item_status_in m)
deed_by f kinds.PatronEnable m = None
deed_by f kinds.Renew m = option_map (loan_deed f) (loan_in m)
deed_by f kinds.FeePaid m = option_map deeds.Said (fee_paid_in m)
deed_by f kinds.RenewAll m = option_and_then renew_all_deed (renew_all_in m)

-- nothing if there is no response of the right kind
abbrev pub deed_from : DueForm → Kind → Result (List ℕ) Field → Option Deed
deed_from f kind (Err word) = None
deed_from f kind (Ok m) = deed_by f kind m

-- What a recorded response says was done (the profile of this project): a server that asks for the
-- message again has done nothing.
unfoldable pub deed_in : DueForm → Act → List ℕ → Option Deed
deed_in f act recorded =
    if is_ok (response_with resend_id recorded) then Some deeds.NotTaken
    else deed_from f (kind_of act) (response_with (response_to (kind_of act)) recorded)

-- What the types of a deed's parts promise: a due day is a real day of the years 1900 to 9999,
-- and a fee is an amount.
abbrev pub FitsDeed : Deed → Type 0
FitsDeed (deeds.Lent told) =
    IfSome told.due IsDay × IfSome told.fee (λ fee. fee ≤ AMOUNT_MAX)
FitsDeed _ = Unit {0}

-- it has a due day, and that one if one is named
abbrev pub is_told_day : Option ℕ → Option ℕ → Bool
is_told_day None told = false
is_told_day (Some day) None = true
is_told_day (Some day) (Some told) = day == told

-- a loan or a renewal is refused, or granted with the day and the rental that are named
abbrev pub loan_agrees : LoanAnswer → Deed → Bool
loan_agrees a deeds.Refused = not (is_some a.due)
loan_agrees a (deeds.Lent told) = is_told_day a.due told.due && is_same_fee a.rental told.fee
loan_agrees a _ = false

-- An answer agrees with a deed if it has all that the deed says (the profile of this
-- project).
abbrev pub agrees : Answer → Deed → Bool
agrees (answers.Checkin a) (deeds.Said told) = is_same (is_some a.known) told
agrees (answers.Checkout a) deed = loan_agrees a deed
agrees (answers.Hold a) (deeds.Said told) = is_same a.ok told
agrees (answers.ItemStatus a) (deeds.Said told) = is_same (is_some a.known) told
agrees (answers.Renew a) deed = loan_agrees a deed
agrees (answers.FeePaid a) (deeds.Said told) = is_same a.accepted told
agrees (answers.RenewAll a) (deeds.Renewed items) = are_same_items a.renewed items
agrees _ _ = false

-- some text has just the id's bytes
unfoldable pub names_item : List (List ℕ) → List ℕ → Bool
names_item texts id = list_any (bytes_eq id) texts

-- it is written as the response to what the act asks
abbrev pub answers_act : Answer → Act → Bool
answers_act a act = bytes_eq (identifier_of a) (response_to (kind_of act))
