-- An answer from which a response differs in no word agrees with what the response says was done.
use Rattle.std.proofs.Common.{◌≡◌, ℕ, Bool, true, false, ◌&&◌, not, eqb, ltb, List, [], ◌∷◌, ◌++◌, length, Option, Some, None, Result, Ok, Err, cond, refl, sym, subst, ◌∙◌}
use Rattle.std.specs.Prelude.{IfSome, is_ok, is_some, slice_index, unwrap_or}
use Rattle.std.specs.Option.{option_and_then, option_map}
use Rattle.std.specs.Str.{bytes_eq}
use Rattle.std.proofs.lemmas.Bool.{and_parts, eqb-true, false≢true}
use Rattle.std.proofs.lemmas.Slice.Eq.{bytes_eq-Decides}
use Rattle.circ_policy.specs.declared.due_form.DueForm.{DueForm}
use Rattle.sip_reader.specs.Reading.{trimmed}
use Rattle.sip_reader.specs.Sum.{body}
use Rattle.sip_reader.specs.Words.{kind_of}
use Rattle.sip_reader.specs.declared.request.Act.{Act}
use Rattle.sip_reader.specs.declared.request.Kind.{Kind}
use Rattle.sip_reader.specs.declared.request.Kind.TheVariants as kinds
use Rattle.sip_answer.specs.Differ.{Agrees, are_same_items, capped, checkin_words, differ, due_words, fee_paid_words, hold_words, identifier_of, is_same, is_same_fee, item_status_words, loan_words, renew_all_words, word_unless, words_in, words_of}
use Rattle.sip_answer.specs.Deeds.{agrees, answers_act, checkin_deed, is_told_day, is_us, loan_agrees, loan_deed, deed_by, deed_from, deed_in, renew_all_deed, told_day}
use Rattle.sip_answer.specs.Responses.{body_with, checkin_in, fee_paid_in, has_id, hold_in, item_status_in, loan_in, renew_all_in, resend_id, response_to, response_with}
use Rattle.sip_answer.specs.declared.answer.Answer.{Answer}
use Rattle.sip_answer.specs.declared.answer.Answer.TheVariants as answers
use Rattle.sip_answer.specs.declared.answer.CheckinAnswer.{CheckinAnswer}
use Rattle.sip_answer.specs.declared.answer.HoldAnswer.{HoldAnswer}
use Rattle.sip_answer.specs.declared.answer.LoanAnswer.{LoanAnswer}
use Rattle.sip_answer.specs.declared.answer.RenewAllAnswer.{RenewAllAnswer}
use Rattle.sip_answer.specs.declared.field.Field.{Field}
use Rattle.sip_answer.specs.declared.field.Field.TheVariants as words
use Rattle.sip_answer.specs.declared.deed.Deed.{Deed}
use Rattle.sip_answer.specs.declared.deed.Deed.TheVariants as deeds
use Rattle.sip_answer.specs.declared.deed.ToldLoan.{ToldLoan}
use Rattle.sip_answer.specs.declared.response.CheckinResponse.{CheckinResponse}
use Rattle.sip_answer.specs.declared.response.HoldResponse.{HoldResponse}
use Rattle.sip_answer.specs.declared.response.LoanResponse.{LoanResponse}
use Rattle.sip_answer.specs.declared.response.RenewAllResponse.{RenewAllResponse}

-- a deed, if there is one, with which the answer agrees
abbrev Fits : Answer → Option Deed → Type 0
Fits a deed = IfSome deed (λ o. agrees a o ≡ true)

-- no word is no difference
no_word : (word : Field) (b : Bool) → word_unless word b ≡ [] → b ≡ true
unfolding word_unless
no_word word true none = refl
no_word word false none = cc none

parts : (xs ys : List Field) → xs ++ ys ≡ [] → (xs ≡ []) × (ys ≡ [])
parts [] ys none = (refl, none)
parts (x ∷ xs) ys none = cc none

-- Checkin response (10), and those that say no more than ok.
checkin_fits : (a : CheckinAnswer) (r : CheckinResponse) → checkin_words a r ≡ []
    → Fits (answers.Checkin a) (checkin_deed r)
unfolding checkin_words checkin_deed
checkin_fits a r none =
    let ok = word_unless words.Ok (is_same (is_some a.known) r.ok) in
    let alert = word_unless words.Alert (is_same a.alert r.alert) in
    by r.placed (no_word words.Ok (is_same (is_some a.known) r.ok) (parts ok alert none).0)
  where
    by : (placed : Bool) → is_same (is_some a.known) r.ok ≡ true
        → Fits (answers.Checkin a) (cond placed None (Some (deeds.Said r.ok)))
    by true same = tt
    by false same = same

hold_fits : (a : HoldAnswer) (r : HoldResponse) → hold_words a r ≡ []
    → agrees (answers.Hold a) (deeds.Said r.ok) ≡ true
unfolding hold_words
hold_fits a r none =
    let ok = word_unless words.Ok (is_same a.ok r.ok) in
    let available = word_unless words.Available (is_same a.available r.available) in
    no_word words.Ok (is_same a.ok r.ok) (parts ok available none).0

-- Checkout response (12) and renew response (30).
day_told : (due read : Option ℕ) (skip : Bool) → is_same (is_some due) true ≡ true
    → due_words due true read ≡ [] → is_told_day due (cond skip None read) ≡ true
unfolding due_words
day_told None read skip same none = absurd (false≢true same)
day_told (Some d) read true same none = refl
day_told (Some d) None false same none = refl
day_told (Some d) (Some told) false same none = no_word words.Due (eqb d told) none

refused : (due : Option ℕ) → is_same (is_some due) false ≡ true → not (is_some due) ≡ true
refused None same = refl
refused (Some d) same = absurd (false≢true same)

abbrev told_of : DueForm → LoanResponse → ToldLoan
told_of f r = record {
  due = cond (r.slashed && not (is_us f)) None r.due;
  fee = r.fee;
  renewal = r.renewal;
}

loan_fits : (f : DueForm) (a : LoanAnswer) (r : LoanResponse) → loan_words a r ≡ []
    → loan_agrees a (loan_deed f r) ≡ true
unfolding loan_words loan_deed told_day
loan_fits f a r none =
    let ok = word_unless words.Ok (is_same (is_some a.due) r.ok) in
    let due = due_words a.due r.ok r.due in
    let fee = word_unless words.Fee (is_same_fee a.rental r.fee) in
    let outer = parts (ok ++ due) fee none in
    let inner = parts ok due outer.0 in
    by r.ok (no_word words.Ok (is_same (is_some a.due) r.ok) inner.0) inner.1
    (no_word words.Fee (is_same_fee a.rental r.fee) outer.1)
  where
    by : (ok : Bool) → is_same (is_some a.due) ok ≡ true → due_words a.due ok r.due ≡ []
        → is_same_fee a.rental r.fee ≡ true
        → loan_agrees a (cond ok (deeds.Lent (told_of f r)) deeds.Refused) ≡ true
    by true same due fee = rw (day_told a.due r.due (r.slashed && not (is_us f)) same due, fee) refl
    by false same due fee = refused a.due same

-- Renew all response (66).
renew_all_fits : (a : RenewAllAnswer) (r : RenewAllResponse) → renew_all_words a r ≡ []
    → Fits (answers.RenewAll a) (renew_all_deed r)
unfolding renew_all_words renew_all_deed
renew_all_fits a r none =
    let ok = word_unless words.Ok (is_same a.ok r.ok) in
    let renewed = word_unless words.Renewed (eqb (capped (length a.renewed)) r.renewed) in
    let unrenewed = word_unless words.Unrenewed (eqb (capped (length a.unrenewed)) r.unrenewed) in
    let items = word_unless words.RenewedItems (are_same_items a.renewed r.renewed_items) in
    let others = word_unless words.UnrenewedItems (are_same_items a.unrenewed r.unrenewed_items) in
    let first = parts (ok ++ renewed ++ unrenewed ++ items) others none in
    let second = parts (ok ++ renewed ++ unrenewed) items first.0 in
    by (r.ok && ltb (length r.renewed_items) r.renewed)
    (no_word words.RenewedItems (are_same_items a.renewed r.renewed_items) second.1)
  where
    by : (few : Bool) → are_same_items a.renewed r.renewed_items ≡ true
        → Fits (answers.RenewAll a) (cond few None (Some (deeds.Renewed r.renewed_items)))
    by true same = tt
    by false same = same

-- what can't be read says nothing
said : {R : Type 0} (a : Answer) (differs : R → List Field) (says : R → Option Deed)
    → ((r : R) → differs r ≡ [] → Fits a (says r)) → (read : Option R)
    → unwrap_or (option_map differs read) (words.Unreadable ∷ []) ≡ []
    → Fits a (option_and_then says read)
said a differs says fits None none = tt
said a differs says fits (Some r) none = fits r none

always_said : {R : Type 0} (a : Answer) (differs : R → List Field) (says : R → Deed)
    → ((r : R) → differs r ≡ [] → agrees a (says r) ≡ true) → (read : Option R)
    → unwrap_or (option_map differs read) (words.Unreadable ∷ []) ≡ []
    → Fits a (option_map says read)
always_said a differs says fits None none = tt
always_said a differs says fits (Some r) none = fits r none

-- no request is answered by the wish to have a message again
other_id : (k : Kind) → has_id (response_to k) resend_id ≡ false
other_id kinds.BlockPatron = refl
other_id kinds.Checkin = refl
other_id kinds.Checkout = refl
other_id kinds.Hold = refl
other_id kinds.ItemStatus = refl
other_id kinds.PatronEnable = refl
other_id kinds.Renew = refl
other_id kinds.FeePaid = refl
other_id kinds.RenewAll = refl

-- each kind
of_kind : (a : Answer) (k : Kind) (f : DueForm) (m : List ℕ)
    → bytes_eq (identifier_of a) (response_to k) ≡ true
    → unwrap_or (words_of a m) (words.Unreadable ∷ []) ≡ [] → Fits a (deed_by f k m)
unfolding item_status_words fee_paid_words
of_kind (answers.BlockPatron a) kinds.BlockPatron f m same none = tt
of_kind (answers.Checkin a) kinds.Checkin f m same none =
    said (answers.Checkin a) (checkin_words a) checkin_deed (checkin_fits a) (checkin_in m) none
of_kind (answers.Checkout a) kinds.Checkout f m same none =
    always_said (answers.Checkout a) (loan_words a) (loan_deed f) (loan_fits f a)
    (loan_in m) none
of_kind (answers.Hold a) kinds.Hold f m same none =
    always_said (answers.Hold a) (hold_words a) (λ (r : HoldResponse). deeds.Said r.ok)
    (hold_fits a) (hold_in m) none
of_kind (answers.ItemStatus a) kinds.ItemStatus f m same none =
    always_said (answers.ItemStatus a) (item_status_words a) deeds.Said
    (λ stored none. no_word words.Ok (is_same (is_some a.known) stored) none)
    (item_status_in m) none
of_kind (answers.PatronEnable a) kinds.PatronEnable f m same none = tt
of_kind (answers.Renew a) kinds.Renew f m same none =
    always_said (answers.Renew a) (loan_words a) (loan_deed f) (loan_fits f a)
    (loan_in m) none
of_kind (answers.FeePaid a) kinds.FeePaid f m same none =
    always_said (answers.FeePaid a) (fee_paid_words a) deeds.Said
    (λ accepted none. no_word words.Accepted (is_same a.accepted accepted) none)
    (fee_paid_in m) none
of_kind (answers.RenewAll a) kinds.RenewAll f m same none =
    said (answers.RenewAll a) (renew_all_words a) renew_all_deed (renew_all_fits a)
    (renew_all_in m) none
of_kind answers.Resend k f m same none =
    let id : resend_id ≡ response_to k = (bytes_eq-Decides resend_id (response_to k)).0 same in
    absurd (false≢true (sym (subst (λ i. has_id i resend_id ≡ false) (sym id) (other_id k))))
of_kind _ _ f m same none = absurd (false≢true same)

-- a response that differs in no word is there
is_there : (a : Answer) (found : Result (List ℕ) Field) → words_in a found ≡ [] → is_ok found ≡ true
is_there a (Ok m) none = refl
is_there a (Err word) none = cc none

-- a response of a request's own kind is no wish to have the message again
apart : (x y i j : ℕ) → (eqb 57 i && eqb 54 j) ≡ false → (eqb x i && eqb y j) ≡ true
    → (eqb x 57 && eqb y 54) ≡ false
apart x y i j others own = by (eqb x 57 && eqb y 54) refl
  where
    by : (b : Bool) → (eqb x 57 && eqb y 54) ≡ b → b ≡ false
    by false e = refl
    by true e =
        let both = and_parts (eqb x 57) (eqb y 54) e in
        let first : x ≡ 57 = eqb-true x 57 both.0 in
        let second : y ≡ 54 = eqb-true y 54 both.1 in
        absurd (false≢true (sym others ∙ (rw (← first, ← second) own)))

-- what is there of a response that is empty, or short, or has the identifier
abbrev body_if : Bool → Bool → Bool → List ℕ → Result (List ℕ) Field
body_if empty short has m =
    cond empty (Err words.Missing)
    (cond short (Err words.Unreadable) (cond (not has) (Err words.Kind) (Ok m)))

one_id : (empty short has other : Bool) (m : List ℕ) → (has ≡ true → other ≡ false)
    → is_ok (body_if empty short has m) ≡ true → is_ok (body_if empty short other m) ≡ false
one_id true short has other m others own = refl
one_id false true has other m others own = refl
one_id false false false other m others own = absurd (false≢true own)
one_id false false true other m others own = rw (others refl) refl

no_resend : (id recorded : List ℕ) → has_id id resend_id ≡ false
    → is_ok (response_with id recorded) ≡ true → is_ok (response_with resend_id recorded) ≡ false
unfolding response_with body_with
no_resend id recorded others own =
    let whole = trimmed recorded in
    let m = body whole in
    one_id (eqb (length whole) 0) (ltb (length m) 2) (has_id id m) (has_id resend_id m) m
    (apart (slice_index m 0) (slice_index m 1) (slice_index id 0) (slice_index id 1) others) own

of_response : (a : Answer) (k : Kind) (f : DueForm) (found : Result (List ℕ) Field)
    → bytes_eq (identifier_of a) (response_to k) ≡ true → words_in a found ≡ []
    → Fits a (deed_from f k found)
of_response a k f (Ok m) same none = of_kind a k f m same none
of_response a k f (Err word) same none = tt

pub agreeing : (a : Answer) (act : Act) (f : DueForm) (recorded : List ℕ)
    → answers_act a act ≡ true → Agrees a recorded → Fits a (deed_in f act recorded)
unfolding differ deed_in
agreeing a act f recorded same none =
    let k = kind_of act in
    let own = response_with (response_to k) recorded in
    let id : identifier_of a ≡ response_to k =
    (bytes_eq-Decides (identifier_of a) (response_to k)).0 same in
    let read : words_in a own ≡ [] =
    subst (λ i. words_in a (response_with i recorded) ≡ []) id none in
    let taken : is_ok (response_with resend_id recorded) ≡ false =
    no_resend (response_to k) recorded (other_id k) (is_there a own read) in
    rw taken (of_response a k f own same read)
