use Rattle.std.proofs.Common.{◌≡◌, ℕ, Bool, true, false, not, List, [], ◌∷◌, refl, sym}
use Rattle.std.specs.List.{list_all, list_any}
use Rattle.std.proofs.lemmas.Bool.{and_parts, or_parts}
use Rattle.sip_reader.specs.Texts.{is_barred, is_line_end}
use Rattle.sip_answer.specs.Devices.ReadBack.{ReadsBack, is_bar, is_whole}
use Rattle.sip_answer.specs.Laws.{is_clean, loan_texts, patron_texts, texts_of, PartsFit}
use Rattle.sip_answer.specs.declared.answer.Answer.{Answer}
use Rattle.sip_answer.specs.declared.answer.Answer.TheVariants as answers
use Rattle.sip_answer.proofs.OwnTexts.{own_agrees}
use Rattle.sip_answer.proofs.laws.own_text_agrees.Goals as goal

-- a text without a bar, CR or LF has no bar
not_any : (b : Bool) → not b ≡ true → b ≡ false
not_any true e = sym e
not_any false e = refl

no_bar : (text : List ℕ) → list_any is_barred text ≡ false → list_any is_bar text ≡ false
no_bar [] none = refl
no_bar (x ∷ text) none =
    let parts = or_parts (is_barred x) (list_any is_barred text) none in
    rw ((or_parts (is_bar x) (is_line_end x) parts.0).0, no_bar text parts.1) refl

whole : (text : List ℕ) → is_clean text ≡ true → is_whole text ≡ true
whole text clean = rw (no_bar text (not_any (list_any is_barred text) clean)) refl

all_whole : (texts : List (List ℕ)) → list_all is_clean texts ≡ true → list_all is_whole texts ≡ true
all_whole [] clean = refl
all_whole (x ∷ texts) clean =
    let parts = and_parts (is_clean x) (list_all is_clean texts) clean in
    rw (whole x parts.0, all_whole texts parts.1) refl

known : (a : Answer) → list_all is_clean (texts_of a) ≡ true → PartsFit a → ReadsBack a
known (answers.BlockPatron a) clean parts = (parts, all_whole (patron_texts a) clean)
known (answers.Checkin a) clean parts = parts
known (answers.Checkout a) clean parts = (all_whole (loan_texts a) clean, parts)
known (answers.Hold a) clean parts = parts
known (answers.ItemStatus a) clean parts = parts
known (answers.PatronEnable a) clean parts = (parts, all_whole (patron_texts a) clean)
known (answers.Renew a) clean parts = (all_whole (loan_texts a) clean, parts)
known (answers.FeePaid a) clean parts = parts
known (answers.RenewAll a) clean parts = (parts, all_whole (texts_of (answers.RenewAll a)) clean)
known answers.Resend clean parts = parts

pub returns : goal.returns
returns c = λ a s clean parts digit. own_agrees a s (known a clean parts) digit
