-- The text that is written of any answer agrees with it.
use Rattle.std.proofs.Common.{◌≡◌, ℕ, true, List, [], Option, ◌∙◌, refl}
use Rattle.std.specs.Prelude.{IfSome, codes, ◌++◌}
use Rattle.std.specs.Char.{is_ascii_digit}
use Rattle.sip_reader.specs.Reading.{trimmed}
use Rattle.sip_answer.specs.Devices.ReadBack.{ReadsBack}
use Rattle.sip_answer.specs.Differ.{differ}
use Rattle.sip_answer.specs.Responses.{response_with}
use Rattle.sip_answer.specs.Texts.{answer_text, checkin_text, fee_paid_text, hold_text, item_status_text, loan_text, owed_text, patron_text, renew_all_text}
use Rattle.sip_answer.specs.declared.answer.Answer.{Answer}
use Rattle.sip_answer.specs.declared.answer.Answer.TheVariants as answers
use Rattle.sip_answer.proofs.OwnLoans.{checkout, renew}
use Rattle.sip_answer.proofs.OwnPatrons.{block_patron, patron_enable}
use Rattle.sip_answer.proofs.OwnRenewals.{renew_all}
use Rattle.sip_answer.proofs.OwnText.{agrees, checkin, fee_paid, hold, item_status, resend}

pub own_agrees : (a : Answer) (s : Option ℕ) → ReadsBack a → IfSome s (λ b. is_ascii_digit b ≡ true)
    → differ a (answer_text a s) ≡ []
unfolding answer_text
own_agrees (answers.BlockPatron a) s fit digit = agrees (answers.BlockPatron a) (patron_text (codes "24") a ++ owed_text a) s (block_patron a fit.1 fit.0) digit
own_agrees (answers.Checkin a) s fit digit = agrees (answers.Checkin a) (checkin_text a) s (checkin a fit) digit
own_agrees (answers.Checkout a) s fit digit = agrees (answers.Checkout a) (loan_text (codes "12") a) s (checkout a fit.0 fit.1) digit
own_agrees (answers.Hold a) s fit digit = agrees (answers.Hold a) (hold_text a) s (hold a fit) digit
own_agrees (answers.ItemStatus a) s fit digit =
    agrees (answers.ItemStatus a) (item_status_text a) s (item_status a fit) digit
own_agrees (answers.PatronEnable a) s fit digit = agrees (answers.PatronEnable a) (patron_text (codes "26") a) s (patron_enable a fit.1 fit.0) digit
own_agrees (answers.Renew a) s fit digit = agrees (answers.Renew a) (loan_text (codes "30") a) s (renew a fit.0 fit.1) digit
own_agrees (answers.FeePaid a) s fit digit = agrees (answers.FeePaid a) (fee_paid_text a) s (fee_paid a fit) digit
own_agrees (answers.RenewAll a) s fit digit =
    agrees (answers.RenewAll a) (renew_all_text a) s (renew_all a fit.1 fit.0) digit
own_agrees answers.Resend s fit digit = resend

-- CR and LF at the end make no difference
trimmed_alike : (a : Answer) (recorded text : List ℕ) → trimmed recorded ≡ trimmed text
    → differ a recorded ≡ differ a text
unfolding differ response_with
trimmed_alike a recorded text same = rw same refl

pub recorded_agrees : (a : Answer) (recorded text : List ℕ) → trimmed recorded ≡ trimmed text → differ a text ≡ [] → differ a recorded ≡ []
recorded_agrees a recorded text same own = trimmed_alike a recorded text same ∙ own
