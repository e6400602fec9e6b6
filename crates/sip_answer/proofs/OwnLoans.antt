-- What is written of a checkout or a renewal agrees with it.
use Rattle.std.proofs.Common.{◌≡◌, ℕ, ◌+◌, ◌/◌, ◌%◌, ◌≤◌, ◌<◌, true, false, ◌&&◌, eqb, List, [], ◌∷◌, ◌++◌, length, drop, Option, Some, None, refl, sym, subst, ap, ◌∙◌, append_assoc, append-nil, arith}
use Rattle.std.specs.Prelude.{codes, decimal, is_some, unwrap_or, IfSome}
use Rattle.std.specs.Char.{is_ascii_digit}
use Rattle.std.specs.Int.{IsInRange}
use Rattle.std.specs.List.{list_all, list_any}
use Rattle.std.specs.Option.{option_and_then, option_map, option_map_or}
use Rattle.std.proofs.lemmas.Bool.{and_parts, le-ltb}
use Rattle.std.proofs.lemmas.Fmt.{decimal_digit, decimal_is_IsNumeral}
use Rattle.std.proofs.lemmas.Grind.{common_steps}
use Rattle.std.proofs.lemmas.List.{length-append}
use Rattle.std.proofs.lemmas.List.Folds.{list_any-append}
use Rattle.circ_policy.specs.Medias.{media_code}
use Rattle.circ_policy.specs.declared.due_form.DueForm.{DueForm}
use Rattle.circ_policy.specs.declared.media_type.MediaType.{MediaType}
use Rattle.circ_policy.specs.declared.media_type.MediaType.TheVariants.{Other, Book, Magazine, BoundJournal, AudioTape, VideoTape, Cd, Diskette, BookWithDiskette, BookWithCd, BookWithTape}
use Rattle.sip_reader.specs.Amounts.{amount_of, amount_text}
use Rattle.sip_reader.proofs.AmountTexts.{amount_of-amount_text, digits_all}
use Rattle.sip_answer.specs.Devices.ReadBack.{is_bar, is_whole}
use Rattle.sip_answer.specs.Differ.{due_words, loan_words, word_unless}
use Rattle.sip_answer.specs.DueDates.{due_text}
use Rattle.sip_answer.specs.Laws.{loan_texts, LoanParts}
use Rattle.sip_answer.specs.Parts.{digit, field, filled, flag, given}
use Rattle.sip_answer.specs.Recorded.{day_in, due_in, fee_in, fee_of}
use Rattle.sip_answer.specs.Responses.{loan_in}
use Rattle.sip_answer.specs.Texts.{loan_text, money}
use Rattle.sip_answer.specs.declared.answer.Answer.TheVariants as answers
use Rattle.sip_answer.specs.declared.answer.KnownItem.{KnownItem}
use Rattle.sip_answer.specs.declared.answer.LoanAnswer.{LoanAnswer}
use Rattle.sip_answer.proofs.DueTexts.{due_clean, due_read}
use Rattle.sip_answer.proofs.FirstFields.{first, here, past, past_filled, past_given}
use Rattle.sip_answer.proofs.Framing.{EndsIn}
use Rattle.sip_answer.proofs.OwnPatrons.{behind_date}
use Rattle.sip_answer.proofs.OwnText.{Agreeing}
use Rattle.sip_answer.proofs.Written.{digit_is, ends_field, ends_filled, ends_given, flag_byte, flag_is, is_same-itself, ok_byte, ok_read}

-- an amount as it is written has no bar, CR or LF
digit_clean : (b : ℕ) → is_ascii_digit b ≡ true → is_bar b ≡ false
digit_clean b digit = grind (arith, common_steps)

digits_clean : (ds : List ℕ) → list_all is_ascii_digit ds ≡ true → list_any is_bar ds ≡ false
digits_clean [] all = refl
digits_clean (b ∷ ds) all =
    let parts = and_parts (is_ascii_digit b) (list_all is_ascii_digit ds) all in
    rw (digit_clean b parts.0, digits_clean ds parts.1) refl

written_clean : (k : ℕ) → k < 10 → is_bar (48 + k) ≡ false
written_clean k small = grind (arith, common_steps)

amount_clean : (n : ℕ) → n ≤ 99_999_999_999 → is_whole (amount_text n) ≡ true
unfolding amount_text
amount_clean n most =
    let w = decimal (n / 100) in
    let whole : list_any is_bar w ≡ false = digits_clean w (digits_all w (decimal_is_IsNumeral (n / 100) (omega (arith, most))).0.1) in
    rw (
      decimal_digit (n / 10 % 10) (omega arith),
      decimal_digit (n % 10) (omega arith),
      list_any-append is_bar (w ++ codes "." ++ (48 + n / 10 % 10) ∷ []) ((48 + n % 10) ∷ []),
      list_any-append is_bar (w ++ codes ".") ((48 + n / 10 % 10) ∷ []),
      list_any-append is_bar w (codes "."),
      whole,
      written_clean (n / 10 % 10) (omega arith),
      written_clean (n % 10) (omega arith),
    ) refl

media_clean : (m : MediaType) → is_whole (media_code m) ≡ true
media_clean Other = refl
media_clean Book = refl
media_clean Magazine = refl
media_clean BoundJournal = refl
media_clean AudioTape = refl
media_clean VideoTape = refl
media_clean Cd = refl
media_clean Diskette = refl
media_clean BookWithDiskette = refl
media_clean BookWithCd = refl
media_clean BookWithTape = refl

-- a fee that is written is read
fee_read : (t : List ℕ) (n : ℕ) → amount_of t ≡ Some n → fee_of (Some t) ≡ Some (Some n)
unfolding amount_of
fee_read [] n e = cc e
fee_read (x ∷ t) n e = ap (option_map Some) e

-- the fields after a fee: none is BV
behind : Option KnownItem → List ℕ
behind known = given (codes "CK") (option_map (λ (i : KnownItem). media_code i.media) known) ++ filled (codes "CH") (option_map_or (λ (i : KnownItem). i.properties) known [])

coded_clean : (known : Option KnownItem)
    → is_whole (unwrap_or (option_map (λ (i : KnownItem). media_code i.media) known) []) ≡ true
coded_clean None = refl
coded_clean (Some i) = media_clean i.media

no_fee : (known : Option KnownItem) → is_whole
    (option_map_or (λ (i : KnownItem). i.properties) known []) ≡ true
    → first 66 86 (behind known) ≡ None
unfolding behind
no_fee known clean =
    past_given 67 75 66 86 (option_map (λ (i : KnownItem). media_code i.media) known) (filled (codes "CH") (option_map_or (λ (i : KnownItem). i.properties) known [])) refl refl (coded_clean known)
    ∙ past_filled 67 72 66 86 (option_map_or (λ (i : KnownItem). i.properties) known []) refl refl clean

charged : List ℕ → Option ℕ → List ℕ
charged currency rental = option_map_or (λ (r : ℕ). field (codes "BT") (codes "06") ++ money currency r) rental []

rental_read : (currency : List ℕ) (rental : Option ℕ) (known : Option KnownItem)
    → is_whole currency ≡ true → is_whole (option_map_or (λ (i : KnownItem). i.properties) known [])
    ≡ true
    → IfSome rental (λ r. r ≤ 99_999_999_999)
    → fee_of (first 66 86 (charged currency rental ++ behind known)) ≡ Some rental
unfolding charged
rental_read currency None known c1 c2 most = rw (no_fee known c2) refl
rental_read currency (Some r) known c1 c2 most =
    let amount = field (codes "BV") (amount_text r) in
    let regrouped : field (codes "BT") (codes "06") ++ (field (codes "BH") currency ++ amount) ++ behind known ≡ field (codes "BT") (codes "06") ++ (field (codes "BH") currency ++ (amount ++ behind known)) = simp append_assoc in
    let found : first 66 86 (field (codes "BT") (codes "06") ++ (field (codes "BH") currency ++ (amount ++ behind known))) ≡ Some (amount_text r) =
    past 66 84 66 86 (codes "06") (field (codes "BH") currency ++ (amount ++ behind known)) refl refl refl
    ∙ past 66 72 66 86 currency (amount ++ behind known) refl refl c1
    ∙ here 66 86 (amount_text r) (behind known) refl refl (amount_clean r most) in
    rw (regrouped, found) (fee_read (amount_text r) r (amount_of-amount_text r most))

-- the fields of such a response
title_of : LoanAnswer → List ℕ
title_of a = option_map_or (λ (i : KnownItem). i.title) a.known []

due_of : LoanAnswer → List ℕ
due_of a = option_map_or (due_text a.due_form) a.due []

fields : LoanAnswer → List ℕ
fields a =
    field (codes "AO") a.institution ++ (field (codes "AA") a.patron ++ (field (codes "AB") a.item ++ (field (codes "AJ") (title_of a)
    ++ (field (codes "AH") (due_of a) ++ (charged a.currency a.rental ++ behind a.known)))))

record Clean (a : LoanAnswer) : Type 0 where
  institution : is_whole a.institution ≡ true
  patron : is_whole a.patron ≡ true
  item : is_whole a.item ≡ true
  currency : is_whole a.currency ≡ true
  title : is_whole (title_of a) ≡ true
  properties : is_whole (option_map_or (λ (i : KnownItem). i.properties) a.known []) ≡ true

texts_clean : (known : Option KnownItem)
    → list_all is_whole (option_map_or (λ (i : KnownItem). i.title ∷ i.properties ∷ []) known [])
    ≡ true
    → (is_whole (option_map_or (λ (i : KnownItem). i.title) known []) ≡ true)
    × (is_whole (option_map_or (λ (i : KnownItem). i.properties) known []) ≡ true)
texts_clean None clean = (refl, refl)
texts_clean (Some i) clean =
    let parts = and_parts (is_whole i.title) (is_whole i.properties && true) clean in
    (parts.0, (and_parts (is_whole i.properties) true parts.1).0)

clean_of : (a : LoanAnswer) → list_all is_whole (loan_texts a) ≡ true → Clean a
unfolding title_of
clean_of a clean =
    let known = option_map_or (λ (i : KnownItem). i.title ∷ i.properties ∷ []) a.known [] in
    let c1 = and_parts (is_whole a.institution) (list_all is_whole (a.patron ∷ a.item ∷ a.currency ∷ known)) clean in
    let c2 = and_parts (is_whole a.patron) (list_all is_whole (a.item ∷ a.currency ∷ known)) c1.1 in
    let c3 = and_parts (is_whole a.item) (list_all is_whole (a.currency ∷ known)) c2.1 in
    let c4 = and_parts (is_whole a.currency) (list_all is_whole known) c3.1 in
    let c5 = texts_clean a.known c4.1 in
    record { institution = c1.0; patron = c2.0; item = c3.0; currency = c4.0; title = c5.0; properties = c5.1 }

due_found : (a : LoanAnswer) → Clean a → is_whole (due_of a) ≡ true → first 65 72 (fields a) ≡ Some (due_of a)
unfolding fields
due_found a c due =
    let dues = field (codes "AH") (due_of a) ++ (charged a.currency a.rental ++ behind a.known) in
    let titles = field (codes "AJ") (title_of a) ++ dues in
    let items = field (codes "AB") a.item ++ titles in
    past 65 79 65 72 a.institution (field (codes "AA") a.patron ++ items) refl refl c.institution
    ∙ past 65 65 65 72 a.patron items refl refl c.patron
    ∙ past 65 66 65 72 a.item titles refl refl c.item
    ∙ past 65 74 65 72 (title_of a) dues refl refl c.title
    ∙ here 65 72 (due_of a) (charged a.currency a.rental ++ behind a.known) refl refl due

fee_found : (a : LoanAnswer) → Clean a → is_whole (due_of a) ≡ true
    → first 66 86 (fields a) ≡ first 66 86 (charged a.currency a.rental ++ behind a.known)
unfolding fields
fee_found a c due =
    let dues = field (codes "AH") (due_of a) ++ (charged a.currency a.rental ++ behind a.known) in
    let titles = field (codes "AJ") (title_of a) ++ dues in
    let items = field (codes "AB") a.item ++ titles in
    past 65 79 66 86 a.institution (field (codes "AA") a.patron ++ items) refl refl c.institution
    ∙ past 65 65 66 86 a.patron items refl refl c.patron
    ∙ past 65 66 66 86 a.item titles refl refl c.item
    ∙ past 65 74 66 86 (title_of a) dues refl refl c.title
    ∙ past 65 72 66 86 (due_of a) (charged a.currency a.rental ++ behind a.known) refl refl due

-- the day that is written is the day that is read
eqb_itself : (n : ℕ) → eqb n n ≡ true
eqb_itself n = grind (arith, common_steps)

no_due_word : (f : DueForm) (due : Option ℕ) → IfSome due (λ n. IsInRange 4_346_020 7_304_483 n)
    → due_words due (is_some due) (day_in (option_map_or (due_text f) due [])) ≡ []
unfolding due_words word_unless
no_due_word f None range = refl
no_due_word f (Some n) range = rw (due_read f n range, eqb_itself n) refl

words_none : (a : LoanAnswer) (x y : ℕ) (more : List ℕ) → 18 ≤ length more → fee_in (drop 18 more) ≡ Some a.rental
    → due_words a.due (is_some a.due) (due_in (drop 18 more)) ≡ []
    → option_map (loan_words a)
    (loan_in (x ∷ y ∷ ok_byte (is_some a.due) ∷ flag_byte a.renewed ∷ 85 ∷ flag_byte (is_some a.due)
    ∷ more)) ≡ Some []
unfolding loan_in loan_words word_unless
words_none a x y more long fee due =
    rw (
      le-ltb (length (x ∷ y ∷ ok_byte (is_some a.due) ∷ flag_byte a.renewed ∷ 85 ∷ flag_byte (is_some a.due) ∷ more)) 24 (omega arith),
      ok_read (is_some a.due),
      fee,
      due,
      is_same-itself (is_some a.due),
      eqb_itself (unwrap_or a.rental 0),
    ) refl

regroup : (d f g h i j k l m : List ℕ)
    → d ++ f ++ g ++ h ++ i ++ j ++ k ++ l ++ m
    ≡ d ++ (f ++ (g ++ (h ++ (i ++ (j ++ (k ++ (l ++ m)))))))
regroup d f g h i j k l m = simp append_assoc

shape : (x y : ℕ) (a : LoanAnswer) → loan_text (x ∷ y ∷ []) a
    ≡ x ∷ y ∷ ok_byte (is_some a.due) ∷ flag_byte a.renewed ∷ 85 ∷ flag_byte (is_some a.due)
    ∷ (a.date ++ fields a)
unfolding fields title_of due_of charged behind
shape x y a =
    rw (digit_is (is_some a.due), flag_is a.renewed, flag_is (is_some a.due))
    (ap (λ (t : List ℕ). x ∷ y ∷ ok_byte (is_some a.due) ∷ flag_byte a.renewed ∷ 85 ∷ flag_byte (is_some a.due) ∷ t)
    (regroup a.date (field (codes "AO") a.institution) (field (codes "AA") a.patron) (field (codes "AB") a.item) (field (codes "AJ") (title_of a)) (field (codes "AH") (due_of a))
    (charged a.currency a.rental) (given (codes "CK") (option_map (λ (i : KnownItem). media_code i.media) a.known)) (filled (codes "CH") (option_map_or (λ (i : KnownItem). i.properties) a.known []))))

ends_charged : (x currency : List ℕ) (rental : Option ℕ) → EndsIn 124 x → EndsIn 124 (x ++ charged currency rental)
unfolding charged
ends_charged x currency None end = rw (append-nil x) end
ends_charged x currency (Some r) end =
    let front = field (codes "BT") (codes "06") ++ field (codes "BH") currency in
    let last = field (codes "BV") (amount_text r) in
    let regrouped : x ++ (field (codes "BT") (codes "06") ++ (field (codes "BH") currency ++ last)) ≡ x ++ front ++ last = simp append_assoc in
    rw regrouped (ends_field (x ++ front) (codes "BV") (amount_text r))

ends : (id : List ℕ) (a : LoanAnswer) → EndsIn 124 (loan_text id a)
unfolding charged
ends id a =
    let front =
    id ++ digit (is_some a.due) ++ flag a.renewed ++ codes "U" ++ flag (is_some a.due) ++ a.date ++ field (codes "AO") a.institution ++ field (codes "AA") a.patron
    ++ field (codes "AB") a.item ++ field (codes "AJ") (option_map_or (λ (i : KnownItem). i.title) a.known []) in
    let dued = ends_field front (codes "AH") (option_map_or (due_text a.due_form) a.due []) in
    let due = front ++ field (codes "AH") (option_map_or (due_text a.due_form) a.due []) in
    let media = option_map (λ (i : KnownItem). media_code i.media) a.known in
    ends_filled (due ++ charged a.currency a.rental ++ given (codes "CK") media) (codes "CH") (option_map_or (λ (i : KnownItem). i.properties) a.known [])
    (ends_given (due ++ charged a.currency a.rental) (codes "CK") media (ends_charged due a.currency a.rental dued))

none : (x y : ℕ) (a : LoanAnswer) → list_all is_whole (loan_texts a) ≡ true → LoanParts a
    → option_map (loan_words a) (loan_in (loan_text (x ∷ y ∷ []) a)) ≡ Some []
unfolding fee_in due_in first due_of
none x y a clean parts =
    let c = clean_of a clean in
    let dated : is_whole (due_of a) ≡ true = due_clean a.due_form a.due parts.1 in
    let long : 18 ≤ length (a.date ++ fields a) = simp length-append (omega (arith, parts.0)) in
    let fee : fee_in (drop 18 (a.date ++ fields a)) ≡ Some a.rental =
    rw (behind_date a.date (fields a) parts.0) (ap fee_of (fee_found a c dated) ∙ rental_read a.currency a.rental a.known c.currency c.properties parts.2) in
    let due : due_words a.due (is_some a.due) (due_in (drop 18 (a.date ++ fields a))) ≡ [] =
    rw (behind_date a.date (fields a) parts.0) (ap (λ (o : Option (List ℕ)). due_words a.due (is_some a.due) (option_and_then day_in o)) (due_found a c dated) ∙ no_due_word a.due_form a.due parts.1) in
    subst (λ (t : List ℕ). option_map (loan_words a) (loan_in t) ≡ Some []) (sym (shape x y a)) (words_none a x y (a.date ++ fields a) long fee due)

text_long : (x y : ℕ) (a : LoanAnswer) → 2 ≤ length (loan_text (x ∷ y ∷ []) a)
text_long x y a = subst (λ (t : List ℕ). 2 ≤ length t) (sym (shape x y a)) (omega arith)

-- Checkout response (12).
pub checkout : (a : LoanAnswer) → list_all is_whole (loan_texts a) ≡ true → LoanParts a → Agreeing (answers.Checkout a) (loan_text (codes "12") a)
checkout a clean parts = record { end = ends (codes "12") a; long = text_long 49 50 a; kind = refl; none = none 49 50 a clean parts }

-- Renew response (30).
pub renew : (a : LoanAnswer) → list_all is_whole (loan_texts a) ≡ true → LoanParts a → Agreeing (answers.Renew a) (loan_text (codes "30") a)
renew a clean parts = record { end = ends (codes "30") a; long = text_long 51 48 a; kind = refl; none = none 51 48 a clean parts }
