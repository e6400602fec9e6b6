-- What is written of an answer about a patron agrees with it.
use Rattle.std.proofs.Common.{◌≡◌, ℕ, ◌≤◌, Bool, true, false, List, [], ◌∷◌, ◌++◌, length, drop, Option, Some, None, refl, sym, subst, ap, ◌∙◌, append_assoc, append-nil, arith}
use Rattle.std.specs.Prelude.{codes, is_some}
use Rattle.std.specs.List.{list_all}
use Rattle.std.specs.Option.{option_map, option_map_or}
use Rattle.std.proofs.lemmas.Bool.{and_parts, le-ltb}
use Rattle.std.proofs.lemmas.List.{length-append}
use Rattle.std.proofs.Math.Seq.{drop-append_seam}
use Rattle.sip_reader.specs.Amounts.{amount_text}
use Rattle.sip_answer.specs.Devices.ReadBack.{is_whole}
use Rattle.sip_answer.specs.Differ.{identifier_of, is_same_status, patron_words, word_unless, words_of}
use Rattle.sip_answer.specs.Laws.{patron_texts}
use Rattle.sip_answer.specs.Parts.{field, flag}
use Rattle.sip_reader.specs.Reading.{says_yes}
use Rattle.sip_answer.specs.Recorded.{valid_in}
use Rattle.sip_answer.specs.Responses.{has_id, patron_in, status_in}
use Rattle.sip_answer.specs.Texts.{money, owed_text, patron_text, status_text}
use Rattle.sip_answer.specs.declared.answer.Answer.{Answer}
use Rattle.sip_answer.specs.declared.answer.Answer.TheVariants as answers
use Rattle.sip_answer.specs.declared.answer.KnownPatron.{KnownPatron}
use Rattle.sip_answer.specs.declared.answer.PatronAnswer.{PatronAnswer}
use Rattle.sip_answer.specs.declared.answer.PatronStatus.{PatronStatus}
use Rattle.sip_answer.proofs.FirstFields.{first, here, past}
use Rattle.sip_answer.proofs.Framing.{EndsIn}
use Rattle.sip_answer.proofs.OwnText.{Agreeing}
use Rattle.sip_answer.proofs.Written.{ends_field, is_same-itself, mark_byte, mark_is, mark_read}

-- what follows a date of 18 bytes
pub behind_date : (date more : List ℕ) → length date ≡ 18 → drop 18 (date ++ more) ≡ more
behind_date date more long = rw (← long) (drop-append_seam date more)

-- the 17 bytes between the identifier and the date
status_bytes : PatronStatus → List ℕ → List ℕ
status_bytes s more =
    mark_byte s.charge_denied ∷ mark_byte s.renewal_denied ∷ 32 ∷ mark_byte s.hold_denied ∷ 32 ∷ mark_byte s.too_many_items
    ∷ 32 ∷ 32 ∷ 32 ∷ 32 ∷ 32 ∷ mark_byte s.excessive_fees ∷ 32 ∷ 32 ∷ 48 ∷ 48 ∷ 48 ∷ more

status_read : (s : PatronStatus) (x y : ℕ) (more : List ℕ)
    → is_same_status s (status_in (x ∷ y ∷ status_bytes s more)) ≡ true
unfolding is_same_status status_in status_bytes
status_read s x y more =
    rw (
      mark_read s.charge_denied,
      mark_read s.renewal_denied,
      mark_read s.too_many_items,
      mark_read s.excessive_fees,
      is_same-itself s.charge_denied,
      is_same-itself s.renewal_denied,
      is_same-itself s.too_many_items,
      is_same-itself s.excessive_fees,
    ) refl

patron_none : (a : PatronAnswer) (x y : ℕ) (more : List ℕ) → 18 ≤ length more
    → valid_in (drop 18 more) ≡ is_some a.known
    → option_map (patron_words a) (patron_in (x ∷ y ∷ status_bytes a.status more)) ≡ Some []
unfolding patron_in patron_words status_bytes word_unless
patron_none a x y more long valid =
    rw (le-ltb (length (x ∷ y ∷ status_bytes a.status more)) 37 (omega arith), status_read a.status x y more, valid, is_same-itself (is_some a.known)) refl

-- the valid patron that is written is read
flag_clean : (b : Bool) → is_whole (flag b) ≡ true
unfolding flag
flag_clean true = refl
flag_clean false = refl

yes_read : (b : Bool) → says_yes (Some (flag b)) ≡ b
unfolding flag
yes_read true = refl
yes_read false = refl

name_clean : (known : Option KnownPatron)
    → list_all is_whole (option_map_or (λ (p : KnownPatron). p.name ∷ []) known []) ≡ true
    → is_whole (option_map_or (λ (p : KnownPatron). p.name) known []) ≡ true
name_clean None clean = refl
name_clean (Some p) clean = (and_parts (is_whole p.name) true clean).0

fields : PatronAnswer → List ℕ → List ℕ
fields a more =
    field (codes "AO") a.institution ++ (field (codes "AA") a.patron ++ (field (codes "AE") (option_map_or (λ (p : KnownPatron). p.name) a.known []) ++ (field (codes "BL") (flag (is_some a.known)) ++ more)))

valid_read : (a : PatronAnswer) (more : List ℕ) → list_all is_whole (patron_texts a) ≡ true
    → valid_in (fields a more) ≡ is_some a.known
unfolding valid_in first fields
valid_read a more clean =
    let name = option_map_or (λ (p : KnownPatron). p.name) a.known [] in
    let known = option_map_or (λ (p : KnownPatron). p.name ∷ []) a.known [] in
    let c1 = and_parts (is_whole a.institution) (list_all is_whole (a.patron ∷ a.currency ∷ known)) clean in
    let c2 = and_parts (is_whole a.patron) (list_all is_whole (a.currency ∷ known)) c1.1 in
    let c3 = and_parts (is_whole a.currency) (list_all is_whole known) c2.1 in
    let last = field (codes "BL") (flag (is_some a.known)) ++ more in
    let names = field (codes "AE") name ++ last in
    let found : first 66 76 (fields a more) ≡ Some (flag (is_some a.known)) =
    past 65 79 66 76 a.institution (field (codes "AA") a.patron ++ names) refl refl c1.0
    ∙ past 65 65 66 76 a.patron names refl refl c2.0
    ∙ past 65 69 66 76 name last refl refl (name_clean a.known c3.1)
    ∙ here 66 76 (flag (is_some a.known)) more refl refl (flag_clean (is_some a.known)) in
    rw found (yes_read (is_some a.known))

regroup : (d f g h i more : List ℕ) → d ++ f ++ g ++ h ++ i ++ more ≡ d ++ (f ++ (g ++ (h ++ (i ++ more))))
regroup d f g h i more = simp append_assoc

-- a text of such a response, with more after it
shape : (x y : ℕ) (a : PatronAnswer) (more : List ℕ)
    → patron_text (x ∷ y ∷ []) a ++ more ≡ x ∷ y ∷ status_bytes a.status (a.date ++ fields a more)
unfolding status_bytes fields
shape x y a more = rw (mark_is a.status.charge_denied, mark_is a.status.renewal_denied, mark_is a.status.hold_denied, mark_is a.status.too_many_items, mark_is a.status.excessive_fees)
    (ap (λ (t : List ℕ). x ∷ y ∷ status_bytes a.status t)
    (regroup a.date (field (codes "AO") a.institution) (field (codes "AA") a.patron) (field (codes "AE") (option_map_or (λ (p : KnownPatron). p.name) a.known [])) (field (codes "BL") (flag (is_some a.known))) more))

none : (x y : ℕ) (a : PatronAnswer) (more : List ℕ) → list_all is_whole (patron_texts a) ≡ true → length a.date ≡ 18
    → option_map (patron_words a) (patron_in (patron_text (x ∷ y ∷ []) a ++ more)) ≡ Some []
none x y a more clean date =
    let long : 18 ≤ length (a.date ++ fields a more) = simp length-append (omega arith) in
    let read : valid_in (drop 18 (a.date ++ fields a more)) ≡ is_some a.known = rw (behind_date a.date (fields a more) date) (valid_read a more clean) in
    subst (λ t. option_map (patron_words a) (patron_in t) ≡ Some []) (sym (shape x y a more)) (patron_none a x y (a.date ++ fields a more) long read)

text_long : (x y : ℕ) (a : PatronAnswer) (more : List ℕ) → 2 ≤ length (patron_text (x ∷ y ∷ []) a ++ more)
unfolding status_bytes
text_long x y a more = subst (λ t. 2 ≤ length t) (sym (shape x y a more)) (omega arith)

agreeing : (x y : ℕ) (a : PatronAnswer) (more : List ℕ) (answer : Answer)
    → EndsIn 124 (patron_text (x ∷ y ∷ []) a ++ more)
    → has_id (identifier_of answer) (patron_text (x ∷ y ∷ []) a ++ more) ≡ true
    → words_of answer (patron_text (x ∷ y ∷ []) a ++ more) ≡ Some []
    → Agreeing answer (patron_text (x ∷ y ∷ []) a ++ more)
agreeing x y a more answer end kind words = record { end = end; long = text_long x y a more; kind = kind; none = words }

ends_money : (x currency : List ℕ) (n : ℕ) → EndsIn 124 (x ++ money currency n)
ends_money x currency n =
    rw (← append_assoc x (field (codes "BH") currency) (field (codes "BV") (amount_text n))) (ends_field (x ++ field (codes "BH") currency) (codes "BV") (amount_text n))

ends_owed : (x currency : List ℕ) (known : Option KnownPatron) → EndsIn 124 x
    → EndsIn 124 (x ++ option_map_or (λ (p : KnownPatron). money currency p.owed) known [])
ends_owed x currency None end = rw (append-nil x) end
ends_owed x currency (Some p) end = ends_money x currency p.owed

ends : (id : List ℕ) (a : PatronAnswer) → EndsIn 124 (patron_text id a)
ends id a =
    ends_field (id ++ status_text a.status ++ codes "000" ++ a.date ++ field (codes "AO") a.institution ++ field (codes "AA") a.patron
    ++ field (codes "AE") (option_map_or (λ (p : KnownPatron). p.name) a.known [])) (codes "BL") (flag (is_some a.known))

-- Patron enable response (26).
pub patron_enable : (a : PatronAnswer) → list_all is_whole (patron_texts a) ≡ true → length a.date ≡ 18 → Agreeing (answers.PatronEnable a) (patron_text (codes "26") a)
patron_enable a clean date =
    subst (Agreeing (answers.PatronEnable a)) (append-nil (patron_text (codes "26") a))
    (agreeing 50 54 a [] (answers.PatronEnable a) (rw (append-nil (patron_text (codes "26") a)) (ends (codes "26") a)) refl (none 50 54 a [] clean date))

-- Patron status response (24).
pub block_patron : (a : PatronAnswer) → list_all is_whole (patron_texts a) ≡ true → length a.date ≡ 18 → Agreeing (answers.BlockPatron a) (patron_text (codes "24") a ++ owed_text a)
block_patron a clean date =
    agreeing 50 52 a (owed_text a) (answers.BlockPatron a) (ends_owed (patron_text (codes "24") a) a.currency a.known (ends (codes "24") a)) refl (none 50 52 a (owed_text a) clean date)
