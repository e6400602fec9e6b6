-- What has to be known of an answer, of each kind no more than that, for its own text to agree with
-- it.
use Rattle.std.specs.Prelude.{◌≡◌, ◌==◌, ℕ, Bool, true, not, List}
use Rattle.std.specs.List.{list_all, list_any}
use Rattle.sip_reader.specs.Bytes as byte
use Rattle.sip_answer.specs.Laws.{IsDate, LoanParts, loan_texts, patron_texts, texts_of}
use Rattle.sip_answer.specs.declared.answer.Answer.{Answer}
use Rattle.sip_answer.specs.declared.answer.Answer.TheVariants as answers

abbrev pub is_bar : ℕ → Bool
is_bar b = b == byte.bar

-- no bar cuts it in pieces
abbrev pub is_whole : List ℕ → Bool
is_whole text = not (list_any is_bar text)

abbrev pub ReadsBack : Answer → Type 0
ReadsBack (answers.BlockPatron a) = IsDate a.date × (list_all is_whole (patron_texts a) ≡ true)
ReadsBack (answers.Checkin a) = IsDate a.date
ReadsBack (answers.Checkout a) = (list_all is_whole (loan_texts a) ≡ true) × LoanParts a
ReadsBack (answers.Hold a) = IsDate a.date
ReadsBack (answers.ItemStatus a) = IsDate a.date
ReadsBack (answers.PatronEnable a) = IsDate a.date × (list_all is_whole (patron_texts a) ≡ true)
ReadsBack (answers.Renew a) = (list_all is_whole (loan_texts a) ≡ true) × LoanParts a
ReadsBack (answers.FeePaid a) = IsDate a.date
ReadsBack (answers.RenewAll a) =
    IsDate a.date × (list_all is_whole (texts_of (answers.RenewAll a)) ≡ true)
ReadsBack answers.Resend = Unit {0}
