-- What a response says was done fits: its day is a real day, and its fee an amount.
use Rattle.std.proofs.Common.{◌≡◌, ◌≤◌, ◌+◌, ◌*◌, ℕ, List, [], ◌∷◌, Bool, true, false, cond, Option, Some, None, Result, Ok, Err, length, drop, refl}
use Rattle.std.specs.Prelude.{IfSome, is_ok, nat_le, nat_lt, ◌&&◌, ◌==◌, not, slice_index}
use Rattle.std.specs.Option.{option_and_then, option_map}
use Rattle.circ_policy.specs.declared.due_form.DueForm.{DueForm}
use Rattle.sip_reader.proofs.Bounds.{amount-bound}
use Rattle.sip_reader.specs.Amounts.{amount_of}
use Rattle.sip_reader.specs.Bytes as byte
use Rattle.sip_reader.specs.Days.{IsDay, day_at}
use Rattle.sip_reader.specs.Fields.{field, pieces}
use Rattle.sip_reader.specs.Words.{kind_of}
use Rattle.sip_reader.specs.declared.request.Act.{Act}
use Rattle.sip_reader.specs.declared.request.Kind.{Kind}
use Rattle.sip_reader.specs.declared.request.Kind.TheVariants as kinds
use Rattle.sip_answer.specs.Deeds.{FitsDeed, checkin_deed, is_us, loan_deed, deed_by, deed_from, deed_in, renew_all_deed, told_day}
use Rattle.sip_answer.specs.Recorded.{◌>>=◌, day_in, day_of_digits, due_in, fee_in, fee_of, has_slashes, number_at, ok_of, slashed_in}
use Rattle.sip_answer.specs.Responses.{checkin_in, fee_paid_in, hold_in, item_status_in, loan_fixed, loan_in, ok_byte, renew_all_in, renewal_byte, resend_id, response_to, response_with}
use Rattle.sip_answer.specs.declared.field.Field.{Field}
use Rattle.sip_answer.specs.declared.deed.Deed.TheVariants as deeds
use Rattle.sip_answer.specs.declared.response.CheckinResponse.{CheckinResponse}
use Rattle.sip_answer.specs.declared.response.HoldResponse.{HoldResponse}
use Rattle.sip_answer.specs.declared.response.LoanResponse.{LoanResponse}
use Rattle.sip_answer.specs.declared.response.RenewAllResponse.{RenewAllResponse}

-- DAYS

real-at : (y m d : ℕ) → IfSome (day_at y m d) IsDay
real-at y m d = by (day_at y m d) refl
  where
    by : (o : Option ℕ) → day_at y m d ≡ o → IfSome o IsDay
    by None e = tt
    by (Some n) e = (y, m, d, e)

day-real : (t : List ℕ) (century year month day : ℕ) → IfSome (day_of_digits t century year month day) IsDay
day-real t century year month day = by (number_at century t) (number_at year t) (number_at month t) (number_at day t)
  where
    by : (c y m d : Option ℕ)
        → IfSome (c >>= (λ c. y >>= (λ y. m >>= (λ m. d >>= (λ d. day_at
        (c * 100 + y) m d))))) IsDay
    by None y m d = tt
    by (Some c) None m d = tt
    by (Some c) (Some y) None d = tt
    by (Some c) (Some y) (Some m) None = tt
    by (Some c) (Some y) (Some m) (Some d) = real-at (c * 100 + y) m d

text-real : (t : List ℕ) → IfSome (day_in t) IsDay
unfolding day_in
text-real t = by (nat_le 10 (length t) && ((slice_index t 4 == byte.hyphen) && (slice_index t 7 == byte.hyphen))) (has_slashes t) (nat_le 8 (length t))
  where
    by : (a b c : Bool) → IfSome
        (cond a (day_of_digits t 0 2 5 8)
        (cond b (day_of_digits t 6 8 0 3) (cond c (day_of_digits t 0 2 4 6) None))) IsDay
    by true b c = day-real t 0 2 5 8
    by false true c = day-real t 6 8 0 3
    by false false true = day-real t 0 2 4 6
    by false false false = tt

due-real : (rest : List ℕ) → IfSome (due_in rest) IsDay
unfolding due_in
due-real rest = by (field byte.A byte.H (pieces rest))
  where
    by : (o : Option (List ℕ)) → IfSome (option_and_then day_in o) IsDay
    by None = tt
    by (Some t) = text-real t

-- LOANS

fee-fits : (rest : List ℕ) → IfSome (fee_in rest) (λ o. IfSome o (λ n. n ≤ 99999999999))
unfolding fee_in
fee-fits rest = by (field byte.B byte.V (pieces rest))
  where
    some : (o : Option ℕ) → IfSome o (λ n. n ≤ 99999999999)
        → IfSome (option_map Some o) (λ o. IfSome o (λ n. n ≤ 99999999999))
    some None h = tt
    some (Some n) h = h

    by : (o : Option (List ℕ)) → IfSome (fee_of o) (λ o. IfSome o (λ n. n ≤ 99999999999))
    by None = tt
    by (Some []) = tt
    by (Some (x ∷ text)) = some (amount_of (x ∷ text)) (amount-bound (x ∷ text))

loan-read : (m : List ℕ) → IfSome (loan_in m)
    (λ (r : LoanResponse). IfSome r.due IsDay × IfSome r.fee (λ n. n ≤ 99999999999))
unfolding loan_in
loan-read m =
    by (nat_lt (length m) loan_fixed) (ok_of (ok_byte m)) (fee_in (drop loan_fixed m)) (fee-fits (drop loan_fixed m))
  where
    by : (short : Bool) (ok : Option Bool) (fee : Option (Option ℕ)) → IfSome fee (λ o. IfSome o (λ n. n ≤ 99999999999))
        → IfSome (cond short None
        (ok >>= (λ ok. fee >>= (λ fee. Some
        (record {
          ok = ok;
          renewal = renewal_byte m == byte.Y;
          due = due_in (drop loan_fixed m);
          slashed = slashed_in (drop loan_fixed m);
          fee = fee;
        })))))
        (λ (r : LoanResponse). IfSome r.due IsDay × IfSome r.fee (λ n. n ≤ 99999999999))
    by true ok fee h = tt
    by false None fee h = tt
    by false (Some ok) None h = tt
    by false (Some ok) (Some fee) h = (due-real (drop loan_fixed m), h)

loan-fits : (f : DueForm) (r : LoanResponse) → IfSome r.due IsDay
    → IfSome r.fee (λ n. n ≤ 99999999999) → FitsDeed (loan_deed f r)
unfolding loan_deed told_day
loan-fits f r day fee = by r.ok (r.slashed && not (is_us f)) r.due day
  where
    by : (ok b : Bool) (due : Option ℕ) → IfSome due IsDay
        → FitsDeed (cond ok (deeds.Lent
        (record { due = cond b None due; fee = r.fee; renewal = r.renewal })) deeds.Refused)
    by true true due h = (tt, fee)
    by true false due h = (h, fee)
    by false b due h = tt

loans-fit : (f : DueForm) (o : Option LoanResponse)
    → IfSome o (λ (r : LoanResponse). IfSome r.due IsDay × IfSome r.fee (λ n. n ≤ 99999999999))
    → IfSome (option_map (loan_deed f) o) FitsDeed
loans-fit f None h = tt
loans-fit f (Some r) h = loan-fits f r h.0 h.1

-- ALL KINDS

checkin-fits : (o : Option CheckinResponse) → IfSome (option_and_then checkin_deed o) FitsDeed
unfolding checkin_deed
checkin-fits None = tt
checkin-fits (Some r) = by r.placed
  where
    by : (b : Bool) → IfSome (cond b None (Some (deeds.Said r.ok))) FitsDeed
    by true = tt
    by false = tt

renew-all-fits : (o : Option RenewAllResponse) → IfSome (option_and_then renew_all_deed o) FitsDeed
unfolding renew_all_deed
renew-all-fits None = tt
renew-all-fits (Some r) = by (r.ok && nat_lt (length r.renewed_items) r.renewed)
  where
    by : (b : Bool) → IfSome (cond b None (Some (deeds.Renewed r.renewed_items))) FitsDeed
    by true = tt
    by false = tt

hold-fits : (o : Option HoldResponse) → IfSome (option_map (λ (r : HoldResponse). deeds.Said r.ok) o) FitsDeed
hold-fits None = tt
hold-fits (Some r) = tt

said-fits : (o : Option Bool) → IfSome (option_map deeds.Said o) FitsDeed
said-fits None = tt
said-fits (Some told) = tt

kind-fits : (f : DueForm) (k : Kind) (m : List ℕ) → IfSome (deed_by f k m) FitsDeed
kind-fits f kinds.BlockPatron m = tt
kind-fits f kinds.Checkin m = checkin-fits (checkin_in m)
kind-fits f kinds.Checkout m = loans-fit f (loan_in m) (loan-read m)
kind-fits f kinds.Hold m = hold-fits (hold_in m)
kind-fits f kinds.ItemStatus m = said-fits (item_status_in m)
kind-fits f kinds.PatronEnable m = tt
kind-fits f kinds.Renew m = loans-fit f (loan_in m) (loan-read m)
kind-fits f kinds.FeePaid m = said-fits (fee_paid_in m)
kind-fits f kinds.RenewAll m = renew-all-fits (renew_all_in m)

pub deed-fits : (form : DueForm) (act : Act) (recorded : List ℕ) → IfSome (deed_in form act recorded) FitsDeed
unfolding deed_in
deed-fits form act recorded =
    by (is_ok (response_with resend_id recorded)) (response_with (response_to (kind_of act)) recorded)
  where
    by : (b : Bool) (r : Result (List ℕ) Field)
        → IfSome (cond b (Some deeds.NotTaken) (deed_from form (kind_of act) r)) FitsDeed
    by true r = tt
    by false (Ok m) = kind-fits form (kind_of act) m
    by false (Err word) = tt
