-- What is written of an answer agrees with it, kind by kind.
use Rattle.std.proofs.Common.{◌≡◌, ℕ, ◌≤◌, true, false, eqb, List, [], ◌∷◌, ◌++◌, length, Option, Some, refl, sym, subst, arith}
use Rattle.std.specs.Prelude.{IfSome, codes, is_some}
use Rattle.std.specs.Char.{is_ascii_digit}
use Rattle.std.specs.Option.{option_map, option_map_or}
use Rattle.std.proofs.lemmas.Bool.{le-ltb}
use Rattle.std.proofs.lemmas.Grind.{common_steps}
use Rattle.std.proofs.lemmas.List.{length-append}
use Rattle.circ_policy.specs.Medias.{media_code}
use Rattle.sip_reader.specs.Reading.{trimmed}
use Rattle.sip_reader.specs.Sum.{body, has_trailer}
use Rattle.sip_answer.specs.Differ.{checkin_words, differ, fee_paid_words, hold_words, identifier_of, item_status_words, words_of}
use Rattle.sip_answer.specs.Parts.{digit, field, filled, flag, given, with_sequence}
use Rattle.sip_answer.specs.Responses.{body_with, checkin_in, fee_paid_in, has_id, hold_in, item_status_in, response_with}
use Rattle.sip_answer.specs.Texts.{checkin_text, fee_paid_text, hold_text, item_status_text, position_text, resend_text}
use Rattle.sip_answer.specs.declared.answer.Answer.{Answer}
use Rattle.sip_answer.specs.declared.answer.Answer.TheVariants as answers
use Rattle.sip_answer.specs.declared.answer.CheckinAnswer.{CheckinAnswer}
use Rattle.sip_answer.specs.declared.answer.FeePaidAnswer.{FeePaidAnswer}
use Rattle.sip_answer.specs.declared.answer.HoldAnswer.{HoldAnswer}
use Rattle.sip_answer.specs.declared.answer.ItemStatusAnswer.{ItemStatusAnswer}
use Rattle.sip_answer.specs.declared.answer.ReturnedItem.{ReturnedItem}
use Rattle.sip_answer.specs.declared.answer.TitledItem.{TitledItem}
use Rattle.sip_answer.specs.declared.field.Field.TheVariants as words
use Rattle.sip_answer.proofs.Framing.{EndsIn, unframed_again}
use Rattle.sip_answer.proofs.Written.{digit_is, ends_field, ends_filled, ends_given, flag_byte, flag_is, flag_read, no_word, ok_byte, ok_read, stored_read}

-- a text of the right kind whose words are none agrees, with a sequence digit or without one
pub record Agreeing (a : Answer) (t : List ℕ) : Type 0 where
  pub end : EndsIn 124 t
  pub long : 2 ≤ length t
  pub kind : has_id (identifier_of a) t ≡ true
  pub none : words_of a t ≡ Some []

pub agrees : (a : Answer) (t : List ℕ) (sequence : Option ℕ) → Agreeing a t
    → IfSome sequence (λ s. is_ascii_digit s ≡ true) → differ a (with_sequence t sequence) ≡ []
unfolding differ response_with body_with
agrees a t sequence own digit =
    let f = unframed_again t sequence own.end digit in
    let some : eqb (length (with_sequence t sequence)) 0 ≡ false = ne_eqb (length (with_sequence t sequence)) (omega (arith, f.long, own.long)) in
    rw (f.whole, some, f.read, le-ltb (length t) 2 own.long, own.kind, own.none) refl
  where
    ne_eqb : (n : ℕ) → 2 ≤ n → eqb n 0 ≡ false
    ne_eqb n h = grind (arith, common_steps)

-- Fee paid response (38).
fee_paid_none : (a : FeePaidAnswer) (more : List ℕ) → 18 ≤ length more
    → words_of (answers.FeePaid a) (51 ∷ 56 ∷ flag_byte a.accepted ∷ more) ≡ Some []
unfolding fee_paid_in fee_paid_words
fee_paid_none a more long = rw (le-ltb (length (51 ∷ 56 ∷ flag_byte a.accepted ∷ more)) 21 (omega arith), flag_read a.accepted, no_word words.Accepted a.accepted) refl

pub fee_paid : (a : FeePaidAnswer) → length a.date ≡ 18 → Agreeing (answers.FeePaid a) (fee_paid_text a)
fee_paid a date =
    let more = a.date ++ field (codes "AO") a.institution ++ field (codes "AA") a.patron in
    let long : 18 ≤ length more = simp length-append (omega arith) in
    let shape : fee_paid_text a ≡ 51 ∷ 56 ∷ flag_byte a.accepted ∷ more = rw (flag_is a.accepted) refl in
    let end = ends_field (codes "38" ++ flag a.accepted ++ a.date ++ field (codes "AO") a.institution) (codes "AA") a.patron in
    subst (Agreeing (answers.FeePaid a)) (sym shape) (record { end = subst (EndsIn 124) shape end; long = omega arith; kind = refl; none = fee_paid_none a more long })

-- Item status update response (20).
item_status_none : (a : ItemStatusAnswer) (more : List ℕ) → 18 ≤ length more
    → words_of (answers.ItemStatus a) (50 ∷ 48 ∷ ok_byte (is_some a.known) ∷ more) ≡ Some []
unfolding item_status_in item_status_words
item_status_none a more long = rw (le-ltb (length (50 ∷ 48 ∷ ok_byte (is_some a.known) ∷ more)) 21 (omega arith), stored_read (is_some a.known), no_word words.Ok (is_some a.known)) refl

pub item_status : (a : ItemStatusAnswer) → length a.date ≡ 18 → Agreeing (answers.ItemStatus a) (item_status_text a)
item_status a date =
    let title = option_map (λ (i : TitledItem). i.title) a.known in
    let properties = option_map_or (λ (i : TitledItem). i.properties) a.known [] in
    let more = a.date ++ field (codes "AB") a.item ++ given (codes "AJ") title ++ filled (codes "CH") properties in
    let long : 18 ≤ length more = simp length-append (omega arith) in
    let shape : item_status_text a ≡ 50 ∷ 48 ∷ ok_byte (is_some a.known) ∷ more = rw (digit_is (is_some a.known)) refl in
    let front = codes "20" ++ digit (is_some a.known) ++ a.date in
    let end = ends_filled (front ++ field (codes "AB") a.item ++ given (codes "AJ") title) (codes "CH") properties
    (ends_given (front ++ field (codes "AB") a.item) (codes "AJ") title (ends_field front (codes "AB") a.item)) in
    subst (Agreeing (answers.ItemStatus a)) (sym shape) (record { end = subst (EndsIn 124) shape end; long = omega arith; kind = refl; none = item_status_none a more long })

-- Hold response (16).
hold_none : (a : HoldAnswer) (more : List ℕ) → 18 ≤ length more
    → words_of (answers.Hold a) (49 ∷ 54 ∷ ok_byte a.ok ∷ flag_byte a.available ∷ more) ≡ Some []
unfolding hold_in hold_words
hold_none a more long =
    rw (le-ltb (length (49 ∷ 54 ∷ ok_byte a.ok ∷ flag_byte a.available ∷ more)) 22 (omega arith), ok_read a.ok, flag_read a.available, no_word words.Ok a.ok, no_word words.Available a.available) refl

pub hold : (a : HoldAnswer) → length a.date ≡ 18 → Agreeing (answers.Hold a) (hold_text a)
hold a date =
    let position = option_map_or position_text a.position [] in
    let names = λ (x : List ℕ). x ++ position ++ field (codes "AO") a.institution ++ field (codes "AA") a.patron in
    let more = names a.date ++ field (codes "AB") a.item ++ given (codes "AJ") a.title in
    let long : 18 ≤ length more = simp length-append (omega arith) in
    let shape : hold_text a ≡ 49 ∷ 54 ∷ ok_byte a.ok ∷ flag_byte a.available ∷ more = rw (digit_is a.ok, flag_is a.available) refl in
    let front = names (codes "16" ++ digit a.ok ++ flag a.available ++ a.date) in
    let end = ends_given (front ++ field (codes "AB") a.item) (codes "AJ") a.title (ends_field front (codes "AB") a.item) in
    subst (Agreeing (answers.Hold a)) (sym shape) (record { end = subst (EndsIn 124) shape end; long = omega arith; kind = refl; none = hold_none a more long })

-- Checkin response (10).
checkin_none : (a : CheckinAnswer) (more : List ℕ) → 18 ≤ length more →
    words_of (answers.Checkin a) (49 ∷ 48 ∷ ok_byte (is_some a.known) ∷ flag_byte (is_some a.known) ∷ 85 ∷ flag_byte a.alert ∷ more) ≡ Some []
unfolding checkin_in checkin_words
checkin_none a more long =
    rw (
      le-ltb (length (49 ∷ 48 ∷ ok_byte (is_some a.known) ∷ flag_byte (is_some a.known) ∷ 85 ∷ flag_byte a.alert ∷ more)) 24 (omega arith),
      ok_read (is_some a.known),
      flag_read a.alert,
      no_word words.Ok (is_some a.known),
      no_word words.Alert a.alert,
    ) refl

pub checkin : (a : CheckinAnswer) → length a.date ≡ 18 → Agreeing (answers.Checkin a) (checkin_text a)
checkin a date =
    let known = is_some a.known in
    let location = option_map_or (λ (i : ReturnedItem). i.location) a.known [] in
    let title = option_map (λ (i : ReturnedItem). i.title) a.known in
    let media = option_map (λ (i : ReturnedItem). media_code i.media) a.known in
    let properties = option_map_or (λ (i : ReturnedItem). i.properties) a.known [] in
    let names = λ (x : List ℕ). x ++ field (codes "AO") a.institution ++ field (codes "AB") a.item in
    let shown = λ (x : List ℕ). x ++ field (codes "AQ") location ++ given (codes "AJ") title ++ given (codes "AA") a.borrower ++ given (codes "CK") media in
    let more = shown (names a.date) ++ filled (codes "CH") properties in
    let long : 18 ≤ length more = simp length-append (omega arith) in
    let shape : checkin_text a ≡ 49 ∷ 48 ∷ ok_byte known ∷ flag_byte known ∷ 85 ∷ flag_byte a.alert ∷ more = rw (digit_is known, flag_is known, flag_is a.alert) refl in
    let front = names (codes "10" ++ digit known ++ flag known ++ codes "U" ++ flag a.alert ++ a.date) in
    let titled = ends_given (front ++ field (codes "AQ") location) (codes "AJ") title (ends_field front (codes "AQ") location) in
    let lent = ends_given (front ++ field (codes "AQ") location ++ given (codes "AJ") title) (codes "AA") a.borrower titled in
    let coded = ends_given (front ++ field (codes "AQ") location ++ given (codes "AJ") title ++ given (codes "AA") a.borrower) (codes "CK") media lent in
    let end = ends_filled (shown front) (codes "CH") properties coded in
    subst (Agreeing (answers.Checkin a)) (sym shape) (record { end = subst (EndsIn 124) shape end; long = omega arith; kind = refl; none = checkin_none a more long })

-- Request SC resend (96).
pub resend : differ answers.Resend resend_text ≡ []
unfolding differ response_with body_with trimmed body has_trailer
resend = refl
