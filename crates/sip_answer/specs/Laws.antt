-- What the definitions promise together: the text that is written of an answer agrees with it,
-- and an answer with which a response agrees has all that the response says was done.
use Rattle.std.specs.Prelude.{◌≡◌, ◌≤◌, ℕ, Bool, true, not, List, [], ◌∷◌, ◌++◌, length, Option, IfSome}
use Rattle.std.specs.Char.{is_ascii_digit}
use Rattle.std.specs.Int.{IsInRange}
use Rattle.std.specs.List.{list_all, list_any}
use Rattle.std.specs.Option.{option_map_or}
use Rattle.circ_policy.specs.declared.due_form.DueForm.{DueForm}
use Rattle.sip_reader.specs.Dates.{stamp_len}
use Rattle.sip_reader.specs.Days.{FIRST_DAY, LAST_DAY}
use Rattle.sip_reader.specs.Texts.{is_barred}
use Rattle.sip_reader.specs.declared.amount.TheConstants.{AMOUNT_MAX}
use Rattle.sip_reader.specs.declared.request.Act.{Act}
use Rattle.sip_answer.specs.Differ.{Agrees}
use Rattle.sip_answer.specs.Deeds.{agrees, answers_act, deed_in}
use Rattle.sip_answer.specs.Texts.{answer_text}
use Rattle.sip_answer.specs.declared.answer.Answer.{Answer}
use Rattle.sip_answer.specs.declared.answer.Answer.TheVariants as answers
use Rattle.sip_answer.specs.declared.answer.CheckinAnswer.{CheckinAnswer}
use Rattle.sip_answer.specs.declared.answer.HoldAnswer.{HoldAnswer}
use Rattle.sip_answer.specs.declared.answer.ItemStatusAnswer.{ItemStatusAnswer}
use Rattle.sip_answer.specs.declared.answer.LoanAnswer.{LoanAnswer}
use Rattle.sip_answer.specs.declared.answer.PatronAnswer.{PatronAnswer}

-- it has no bar, CR or LF
abbrev pub is_clean : List ℕ → Bool
is_clean text = not (list_any is_barred text)

-- the ids and texts of an answer
abbrev pub patron_texts : PatronAnswer → List (List ℕ)
patron_texts a = a.institution ∷ a.patron ∷ a.currency ∷ option_map_or (λ p. p.name ∷ []) a.known []

abbrev pub checkin_texts : CheckinAnswer → List (List ℕ)
checkin_texts a =
    a.institution ∷ a.item ∷ option_map_or
    (λ i. i.location ∷ i.title ∷ i.properties ∷ []) a.known []
    ++ option_map_or (λ p. p ∷ []) a.borrower []

abbrev pub loan_texts : LoanAnswer → List (List ℕ)
loan_texts a =
    a.institution ∷ a.patron ∷ a.item ∷ a.currency
    ∷ option_map_or (λ i. i.title ∷ i.properties ∷ []) a.known []

abbrev pub item_status_texts : ItemStatusAnswer → List (List ℕ)
item_status_texts a = a.item ∷ option_map_or (λ i. i.title ∷ i.properties ∷ []) a.known []

abbrev pub hold_texts : HoldAnswer → List (List ℕ)
hold_texts a =
    a.institution ∷ a.patron ∷ a.item ∷ option_map_or (λ p. p.pickup ∷ []) a.position []
    ++ option_map_or (λ t. t ∷ []) a.title []

abbrev pub texts_of : Answer → List (List ℕ)
texts_of (answers.BlockPatron a) = patron_texts a
texts_of (answers.Checkin a) = checkin_texts a
texts_of (answers.Checkout a) = loan_texts a
texts_of (answers.Hold a) = hold_texts a
texts_of (answers.ItemStatus a) = item_status_texts a
texts_of (answers.PatronEnable a) = patron_texts a
texts_of (answers.Renew a) = loan_texts a
texts_of (answers.FeePaid a) = a.institution ∷ a.patron ∷ []
texts_of (answers.RenewAll a) = a.institution ∷ a.renewed ++ a.unrenewed
texts_of answers.Resend = []

-- What the types of an answer's parts promise: a date of 18 bytes, and where there are any a due
-- day from 1 January 1900 to 31 December 9999 and a rental of at most 999,999,999.99.
abbrev pub IsDate : List ℕ → Type 0
IsDate date = length date ≡ stamp_len

abbrev pub LoanParts : LoanAnswer → Type 0
LoanParts a =
    IsDate a.date × IfSome a.due (λ d. IsInRange FIRST_DAY LAST_DAY d)
    × IfSome a.rental (λ r. r ≤ AMOUNT_MAX)

abbrev pub PartsFit : Answer → Type 0
PartsFit (answers.BlockPatron a) = IsDate a.date
PartsFit (answers.Checkin a) = IsDate a.date
PartsFit (answers.Checkout a) = LoanParts a
PartsFit (answers.Hold a) = IsDate a.date
PartsFit (answers.ItemStatus a) = IsDate a.date
PartsFit (answers.PatronEnable a) = IsDate a.date
PartsFit (answers.Renew a) = LoanParts a
PartsFit (answers.FeePaid a) = IsDate a.date
PartsFit (answers.RenewAll a) = IsDate a.date
PartsFit answers.Resend = Unit {0}

-- An answer's own text agrees with it, with a sequence digit or without one, where its ids and
-- texts have no bar, CR or LF (the profile of this project).
abbrev pub OwnTextAgrees : Type 0
OwnTextAgrees =
    (a : Answer) (sequence : Option ℕ) → list_all is_clean (texts_of a) ≡ true → PartsFit a
    → IfSome sequence (λ s. is_ascii_digit s ≡ true) → Agrees a (answer_text a sequence)

-- If a response differs in no word from an answer, the answer agrees with what the response says
-- was done, if it says so.
abbrev pub AgreesAsRecorded : Type 0
AgreesAsRecorded =
    (a : Answer) (act : Act) (form : DueForm) (recorded : List ℕ)
    → answers_act a act ≡ true → Agrees a recorded
    → IfSome (deed_in form act recorded) (λ deed. agrees a deed ≡ true)
