-- What is written of a renewal of all items agrees with it.
use Rattle.std.proofs.Common.{◌≡◌, ℕ, ◌+◌, ◌/◌, ◌%◌, ◌≤◌, ◌<◌, Bool, true, false, ◌&&◌, eqb, ltb, List, [], ◌∷◌, ◌++◌, length, drop, Some, cond, refl, sym, subst, ap, ◌∙◌, append_assoc, append-nil, arith}
use Rattle.std.specs.Prelude.{codes}
use Rattle.std.specs.Char.{is_ascii_digit}
use Rattle.std.specs.List.{flat_map, list_all, list_any}
use Rattle.std.specs.Option.{option_map}
use Rattle.std.proofs.lemmas.Bool.{and_parts, le-ltb, ltb-false}
use Rattle.std.proofs.lemmas.Grind.{common_steps}
use Rattle.std.proofs.lemmas.List.{length-append}
use Rattle.std.proofs.lemmas.List.Folds.{list_all-append}
use Rattle.sip_answer.specs.Devices.ReadBack.{is_bar, is_whole}
use Rattle.sip_answer.specs.Differ.{are_same_items, capped, renew_all_words, times_in, word_unless}
use Rattle.sip_answer.specs.DueDates.{four_digits, two_digits}
use Rattle.sip_answer.specs.Parts.{count, digit, each, field}
use Rattle.sip_answer.specs.Recorded.{count_at, items_in}
use Rattle.sip_answer.specs.Responses.{renew_all_in}
use Rattle.sip_answer.specs.Texts.{renew_all_text}
use Rattle.sip_answer.specs.declared.answer.Answer.TheVariants as answers
use Rattle.sip_answer.specs.declared.answer.RenewAllAnswer.{RenewAllAnswer}
use Rattle.sip_answer.proofs.FirstFields.{named, other, piece_of}
use Rattle.sip_answer.proofs.Framing.{EndsIn}
use Rattle.sip_answer.proofs.OwnPatrons.{behind_date}
use Rattle.sip_answer.proofs.OwnText.{Agreeing}
use Rattle.sip_answer.proofs.Written.{digit_is, ends_field, is_same-itself, ok_byte, ok_read}

-- four digits are a count, or 9999
count_is : (n : ℕ) → count n ≡ four_digits (capped n)
unfolding count four_digits two_digits
count_is n = by (ltb 9999 n) refl
  where
    by : (b : Bool) → ltb 9999 n ≡ b → cond (ltb 9999 n) (codes "9999") (four_digits n) ≡ four_digits (cond (ltb 9999 n) 9999 n)
    by true e = rw e refl
    by false e = rw e refl

capped_small : (n : ℕ) → capped n ≤ 9999
capped_small n = by (ltb 9999 n) refl
  where
    by : (b : Bool) → ltb 9999 n ≡ b → cond (ltb 9999 n) 9999 n ≤ 9999
    by true e = rw e (omega arith)
    by false e = rw e (ltb-false 9999 n e)

digit_fits : (k : ℕ) → k < 10 → is_ascii_digit (48 + k) ≡ true
digit_fits k small = grind (arith, common_steps)

first_count : (x y z k : ℕ) (more : List ℕ) → k ≤ 9999 → count_at 3 (x ∷ y ∷ z ∷ (four_digits k ++ more)) ≡ Some k
unfolding four_digits two_digits
first_count x y z k more small =
    rw (digit_fits (k / 100 / 10) (omega arith), digit_fits (k / 100 % 10) (omega arith), digit_fits (k % 100 / 10) (omega arith), digit_fits (k % 100 % 10) (omega arith)) (ap Some (omega arith))

second_count : (x y z j k : ℕ) (more : List ℕ) → k ≤ 9999
    → count_at 7 (x ∷ y ∷ z ∷ (four_digits j ++ (four_digits k ++ more))) ≡ Some k
unfolding four_digits two_digits
second_count x y z j k more small =
    rw (digit_fits (k / 100 / 10) (omega arith), digit_fits (k / 100 % 10) (omega arith), digit_fits (k % 100 / 10) (omega arith), digit_fits (k % 100 % 10) (omega arith)) (ap Some (omega arith))

-- the items that are written are read
items_here : (a b : ℕ) (items : List (List ℕ)) (more : List ℕ)
    → list_any is_bar (a ∷ b ∷ []) ≡ false → (eqb a a && eqb b b) ≡ true
    → list_all is_whole items ≡ true
    → items_in a b (each (a ∷ b ∷ []) items ++ more) ≡ items ++ items_in a b more
unfolding items_in each
items_here a b [] more id same clean = refl
items_here a b (x ∷ xs) more id same clean =
    let parts = and_parts (is_whole x) (list_all is_whole xs) clean in
    let rest = flat_map (field (a ∷ b ∷ [])) xs in
    rw (append_assoc (field (a ∷ b ∷ []) x) rest more, piece_of a b x (rest ++ more) id parts.0, named a b a b x same)
    (ap (λ (l : List (List ℕ)). x ∷ l) (items_here a b xs more id same parts.1))

items_past : (a b c d : ℕ) (items : List (List ℕ)) (more : List ℕ)
    → list_any is_bar (a ∷ b ∷ []) ≡ false → (eqb a c && eqb b d) ≡ false
    → list_all is_whole items ≡ true
    → items_in c d (each (a ∷ b ∷ []) items ++ more) ≡ items_in c d more
unfolding items_in each
items_past a b c d [] more id apart clean = refl
items_past a b c d (x ∷ xs) more id apart clean =
    let parts = and_parts (is_whole x) (list_all is_whole xs) clean in
    let rest = flat_map (field (a ∷ b ∷ [])) xs in
    rw (append_assoc (field (a ∷ b ∷ []) x) rest more, piece_of a b x (rest ++ more) id parts.0, other a b c d x apart)
    (items_past a b c d xs more id apart parts.1)

field_past : (a b c d : ℕ) (text more : List ℕ) → list_any is_bar (a ∷ b ∷ []) ≡ false
    → (eqb a c && eqb b d) ≡ false → is_whole text ≡ true
    → items_in c d (field (a ∷ b ∷ []) text ++ more) ≡ items_in c d more
unfolding items_in
field_past a b c d text more id apart clean = rw (piece_of a b text more id clean, other a b c d text apart) refl

all_pass : (p : List ℕ → Bool) → ((x : List ℕ) → p x ≡ true) → (xs : List (List ℕ)) → list_all p xs ≡ true
all_pass p h [] = refl
all_pass p h (x ∷ xs) = rw (h x, all_pass p h xs) refl

eqb_itself : (n : ℕ) → eqb n n ≡ true
eqb_itself n = grind (arith, common_steps)

same_items : (xs : List (List ℕ)) → are_same_items xs xs ≡ true
unfolding are_same_items
same_items xs =
    all_pass (λ item. eqb (times_in xs item) (times_in xs item)) (λ item. eqb_itself (times_in xs item)) (xs ++ xs)

fields : RenewAllAnswer → List ℕ
fields a = field (codes "AO") a.institution ++ (each (codes "BM") a.renewed ++ each (codes "BN") a.unrenewed)

no_items : (c d : ℕ) → items_in c d [] ≡ []
unfolding items_in
no_items c d = refl

renewed_read : (a : RenewAllAnswer) → is_whole a.institution ≡ true
    → list_all is_whole a.renewed ≡ true → list_all is_whole a.unrenewed ≡ true
    → items_in 66 77 (fields a) ≡ a.renewed
unfolding fields
renewed_read a c1 c2 c3 =
    let last = each (codes "BN") a.unrenewed in
    field_past 65 79 66 77 a.institution (each (codes "BM") a.renewed ++ last) refl refl c1
    ∙ items_here 66 77 a.renewed last refl refl c2
    ∙ ap (λ (l : List (List ℕ)). a.renewed ++ l)
    (ap (items_in 66 77) (sym (append-nil last))
    ∙ items_past 66 78 66 77 a.unrenewed [] refl refl c3 ∙ no_items 66 77)
    ∙ append-nil a.renewed

unrenewed_read : (a : RenewAllAnswer) → is_whole a.institution ≡ true
    → list_all is_whole a.renewed ≡ true → list_all is_whole a.unrenewed ≡ true
    → items_in 66 78 (fields a) ≡ a.unrenewed
unfolding fields
unrenewed_read a c1 c2 c3 =
    let last = each (codes "BN") a.unrenewed in
    field_past 65 79 66 78 a.institution (each (codes "BM") a.renewed ++ last) refl refl c1
    ∙ items_past 66 77 66 78 a.renewed last refl refl c2
    ∙ ap (items_in 66 78) (sym (append-nil last))
    ∙ items_here 66 78 a.unrenewed [] refl refl c3
    ∙ ap (λ (l : List (List ℕ)). a.unrenewed ++ l) (no_items 66 78)
    ∙ append-nil a.unrenewed

-- Renew all response (66).
words_none : (a : RenewAllAnswer) (more : List ℕ) → 18 ≤ length more
    → items_in 66 77 (drop 18 more) ≡ a.renewed → items_in 66 78 (drop 18 more) ≡ a.unrenewed
    → option_map (renew_all_words a)
    (renew_all_in (54 ∷ 54 ∷ ok_byte a.ok
    ∷ (four_digits (capped (length a.renewed))
    ++ (four_digits (capped (length a.unrenewed)) ++ more)))) ≡ Some []
unfolding renew_all_in renew_all_words four_digits two_digits word_unless
words_none a more long renewed unrenewed =
    let r = capped (length a.renewed) in
    let u = capped (length a.unrenewed) in
    let m : List ℕ = 54 ∷ 54 ∷ ok_byte a.ok ∷ (four_digits r ++ (four_digits u ++ more)) in
    rw (
      le-ltb (length m) 29 (omega arith),
      ok_read a.ok,
      first_count 54 54 (ok_byte a.ok) r (four_digits u ++ more) (capped_small (length a.renewed)),
      second_count 54 54 (ok_byte a.ok) r u more (capped_small (length a.unrenewed)),
      renewed,
      unrenewed,
      is_same-itself a.ok,
      eqb_itself r,
      eqb_itself u,
      same_items a.renewed,
      same_items a.unrenewed,
    ) refl

regroup : (d f g h i j : List ℕ) → d ++ f ++ g ++ h ++ i ++ j ≡ d ++ (f ++ (g ++ (h ++ (i ++ j))))
regroup d f g h i j = simp append_assoc

shape : (a : RenewAllAnswer) → renew_all_text a
    ≡ 54 ∷ 54 ∷ ok_byte a.ok ∷ (four_digits (capped (length a.renewed))
    ++ (four_digits (capped (length a.unrenewed)) ++ (a.date ++ fields a)))
unfolding fields
shape a =
    rw (digit_is a.ok, count_is (length a.renewed), count_is (length a.unrenewed))
    (ap (λ (t : List ℕ). 54 ∷ 54 ∷ ok_byte a.ok ∷ t)
    (regroup (four_digits (capped (length a.renewed))) (four_digits (capped (length a.unrenewed))) a.date (field (codes "AO") a.institution) (each (codes "BM") a.renewed) (each (codes "BN") a.unrenewed)))

ends_each : (x id : List ℕ) (items : List (List ℕ)) → EndsIn 124 x → EndsIn 124 (x ++ each id items)
unfolding each
ends_each x id [] end = rw (append-nil x) end
ends_each x id (item ∷ items) end =
    rw (← append_assoc x (field id item) (flat_map (field id) items)) (ends_each (x ++ field id item) id items (ends_field x id item))

pub renew_all : (a : RenewAllAnswer) → list_all is_whole (a.institution ∷ a.renewed ++ a.unrenewed)
    ≡ true → length a.date ≡ 18 → Agreeing (answers.RenewAll a) (renew_all_text a)
renew_all a clean date =
    let names = and_parts (is_whole a.institution) (list_all is_whole (a.renewed ++ a.unrenewed)) clean in
    let both : (list_all is_whole a.renewed && list_all is_whole a.unrenewed) ≡ true = rw (list_all-append is_whole a.renewed a.unrenewed) at names.1 in
    let lists = and_parts (list_all is_whole a.renewed) (list_all is_whole a.unrenewed) both in
    let more = a.date ++ fields a in
    let long : 18 ≤ length more = simp length-append (omega arith) in
    let renewed : items_in 66 77 (drop 18 more) ≡ a.renewed = rw (behind_date a.date (fields a) date) (renewed_read a names.0 lists.0 lists.1) in
    let unrenewed : items_in 66 78 (drop 18 more) ≡ a.unrenewed = rw (behind_date a.date (fields a) date) (unrenewed_read a names.0 lists.0 lists.1) in
    let front = codes "66" ++ digit a.ok ++ count (length a.renewed) ++ count (length a.unrenewed) ++ a.date in
    let end = ends_each (front ++ field (codes "AO") a.institution ++ each (codes "BM") a.renewed) (codes "BN") a.unrenewed
    (ends_each (front ++ field (codes "AO") a.institution) (codes "BM") a.renewed (ends_field front (codes "AO") a.institution)) in
    subst (Agreeing (answers.RenewAll a)) (sym (shape a)) (record { end = subst (EndsIn 124) (shape a) end; long = omega arith; kind = refl; none = words_none a more long renewed unrenewed })
