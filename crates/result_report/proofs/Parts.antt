-- Lines that are written at their positions, and in parts.
use Rattle.std.proofs.Common.{◌≡◌, ◌∙◌, ◌<◌, ◌≤◌, ◌^◌, ◌-◌, ◌+◌, ◌*◌, ℕ, zero, suc, List, [], ◌∷◌, ◌++◌, length, take, drop, map, min, Option, Some, None, Result, Ok, Bor, arith, refl, sym, ap, ◌⊎◌, inl, inr, append_assoc}
use Rattle.std.specs.Prelude.{IfOk, option_copied, option_map, slice_get}
use Rattle.std.specs.List.{AllZip, filter_map, range_with_len}
use Rattle.std.specs.Slice.{IsItemAt}
use Rattle.std.proofs.lemmas.Bool.{cases_lt}
use Rattle.std.proofs.lemmas.List.{append-nil, drop_all, length-append, length-drop, length-take, take_all}
use Rattle.std.proofs.lemmas.List.Elements.{filter_map-append}
use Rattle.std.proofs.lemmas.Option.{slice_get-map, slice_get_past, slice_get_read}
use Rattle.csv.specs.Writing.{default_writer, row_text}
use Rattle.csv_table.specs.Text.{table_text}
use Rattle.journal_table.specs.Entry.{Entry}
use Rattle.rayon.specs.Shown.{take-add}
use Rattle.sip_answer.specs.declared.answer.Answer.{Answer}
use Rattle.sip_reader.specs.declared.request.Reading.{Reading}
use Rattle.result_report.specs.Report.{Row, LineResult, answers_behind, line_results, answer_row, passed_row, report_row}
use Rattle.schema.specs.Names.{answers_header, passed_header, report_header}
use Rattle.result_report.specs.Stretches.{AreParts, between, stretch}
use Rattle.result_report.specs.Tables.{AreHeads, AreTexts, sizes_of}
use Rattle.result_report.specs.declared.texts.Heads.{Heads}
use Rattle.result_report.specs.declared.texts.Sizes.{Sizes}
use Rattle.result_report.specs.declared.texts.ResultTexts.{ResultTexts}
use Rattle.result_report.proofs.TellingLines.{few-rows}

-- what a call of `get` lends
pub lends : {X : Type 0} (xs : List X) (i : ℕ) (r : Option (Bor X)) → IsItemAt xs i r → option_copied r ≡ slice_get xs i
lends xs i None h = sym (slice_get_past xs i h.3)
lends xs i (Some x) h = sym (slice_get_read xs (length xs) i x.now refl h.3.0 h.1)

-- lines are written as far as there are lines, readings and answers
pub no-line : (ls : List Entry) (rs : List Reading) (ans : List (Option Answer)) (i : ℕ)
    → None ≡ slice_get ls i → None ≡ slice_get (line_results ls rs ans) i
no-line [] rs ans i e = refl
no-line (x ∷ ls) [] ans i e = refl
no-line (x ∷ ls) (y ∷ rs) [] i e = refl
no-line (x ∷ ls) (y ∷ rs) (z ∷ ans) zero e = cc e
no-line (x ∷ ls) (y ∷ rs) (z ∷ ans) (suc i) e = no-line ls rs ans i e

pub no-reading : (ls : List Entry) (rs : List Reading) (ans : List (Option Answer)) (i : ℕ)
    → None ≡ slice_get rs i → None ≡ slice_get (line_results ls rs ans) i
no-reading [] rs ans i e = refl
no-reading (x ∷ ls) [] ans i e = refl
no-reading (x ∷ ls) (y ∷ rs) [] i e = refl
no-reading (x ∷ ls) (y ∷ rs) (z ∷ ans) zero e = cc e
no-reading (x ∷ ls) (y ∷ rs) (z ∷ ans) (suc i) e = no-reading ls rs ans i e

pub no-answer : (ls : List Entry) (rs : List Reading) (ans : List (Option Answer)) (i : ℕ)
    → None ≡ slice_get ans i → None ≡ slice_get (line_results ls rs ans) i
no-answer [] rs ans i e = refl
no-answer (x ∷ ls) [] ans i e = refl
no-answer (x ∷ ls) (y ∷ rs) [] i e = refl
no-answer (x ∷ ls) (y ∷ rs) (z ∷ ans) zero e = cc e
no-answer (x ∷ ls) (y ∷ rs) (z ∷ ans) (suc i) e = no-answer ls rs ans i e

pub all-three : (ls : List Entry) (rs : List Reading) (ans : List (Option Answer)) (i : ℕ)
    (l : Entry) (r : Reading) (a : Option Answer)
    → Some l ≡ slice_get ls i → Some r ≡ slice_get rs i → Some a ≡ slice_get ans i
    → Some (l, r, a) ≡ slice_get (line_results ls rs ans) i
all-three [] rs ans i l r a e f g = cc e
all-three (x ∷ ls) [] ans i l r a e f g = cc f
all-three (x ∷ ls) (y ∷ rs) [] i l r a e f g = cc g
all-three (x ∷ ls) (y ∷ rs) (z ∷ ans) zero l r a e f g =
    let p : l ≡ x = cc e in let q : r ≡ y = cc f in let s : a ≡ z = cc g in rw (p, q, s) refl
all-three (x ∷ ls) (y ∷ rs) (z ∷ ans) (suc i) l r a e f g = all-three ls rs ans i l r a e f g

-- no more lines are written than there are
pub few-line_results : (ls : List Entry) (rs : List Reading) (ans : List (Option Answer))
    → length (line_results ls rs ans) ≤ length ls
few-line_results [] rs ans = omega arith
few-line_results (x ∷ ls) [] ans = omega arith
few-line_results (x ∷ ls) (y ∷ rs) [] = omega arith
few-line_results (x ∷ ls) (y ∷ rs) (z ∷ ans) = omega (arith, few-line_results ls rs ans)

module _ {X : Type 0} where
  taken-next : (xs : List X) (n : ℕ) (x : X) → Some x ≡ slice_get xs n → take n xs ++ x ∷ [] ≡ take (suc n) xs
  taken-next [] n x e = cc e
  taken-next (y ∷ xs) zero x e = let same : x ≡ y = cc e in rw same refl
  taken-next (y ∷ xs) (suc n) x e = ap (λ (rest : List X). y ∷ rest) (taken-next xs n x e)

  taken-last : (xs : List X) (n : ℕ) → None ≡ slice_get xs n → take n xs ≡ take (suc n) xs
  taken-last [] zero e = refl
  taken-last [] (suc n) e = refl
  taken-last (y ∷ xs) zero e = cc e
  taken-last (y ∷ xs) (suc n) e = ap (λ (rest : List X). y ∷ rest) (taken-last xs n e)

  get-drop : (from n : ℕ) (xs : List X) → slice_get (drop from xs) n ≡ slice_get xs (from + n)
  get-drop zero n xs = let at : 0 + n ≡ n = omega arith in rw at refl
  get-drop (suc from) n [] = refl
  get-drop (suc from) n (x ∷ xs) = let at : suc from + n ≡ suc (from + n) = omega arith in rw at (get-drop from n xs)

  pub between-next : (from position : ℕ) (xs : List X) (x : X) → from ≤ position
      → Some x ≡ slice_get xs position → between from position xs ++ x ∷ []
      ≡ between from (position + 1) xs
  between-next from position xs x le e =
      let at : from + (position - from) ≡ position = omega arith in
      let next : position + 1 - from ≡ suc (position - from) = omega arith in
      rw next (taken-next (drop from xs) (position - from) x (e ∙ sym (get-drop from (position - from) xs ∙ ap (slice_get xs) at)))

  pub between-last : (from position : ℕ) (xs : List X) → from ≤ position
      → None ≡ slice_get xs position → between from position xs ≡ between from (position + 1) xs
  between-last from position xs le e =
      let at : from + (position - from) ≡ position = omega arith in
      let next : position + 1 - from ≡ suc (position - from) = omega arith in
      rw next (taken-last (drop from xs) (position - from) (e ∙ sym (get-drop from (position - from) xs ∙ ap (slice_get xs) at)))

  pub between-none : (from position : ℕ) (xs : List X) → position ≤ from → between from position xs ≡ []
  between-none from position xs le = let none : position - from ≡ 0 = omega arith in rw none refl

-- the text of rows one after the other
text-append : (a b : List Row) → table_text (a ++ b) ≡ table_text a ++ table_text b
text-append [] b = refl
text-append (row ∷ a) b = ap (λ (t : List ℕ). row_text default_writer row ++ t) (text-append a b) ∙ sym (append_assoc (row_text default_writer row) (table_text a) (table_text b))

drop-front : {X : Type 0} (xs ys : List X) → drop (length xs) (xs ++ ys) ≡ ys
drop-front [] ys = refl
drop-front (x ∷ xs) ys = drop-front xs ys

-- a table without its header after another with the same header
table-behind : (h : Row) (front back : List Row) (n : ℕ) → n ≡ length (table_text (h ∷ []))
    → table_text (h ∷ front) ++ drop n (table_text (h ∷ back)) ≡ table_text (h ∷ (front ++ back))
table-behind h front back n e =
    let head : n ≡ length (row_text default_writer h) = e ∙ ap length (append-nil (row_text default_writer h)) in
    rw (head, drop-front (row_text default_writer h) (table_text back), text-append front back) (append_assoc (row_text default_writer h) (table_text front) (table_text back))

column : (row : LineResult → Option Row) (h : Row) (front back : List LineResult) (n : ℕ)
    (a b c : List ℕ) → n ≡ length (table_text (h ∷ []))
    → a ≡ table_text (h ∷ filter_map row front) → b ≡ table_text (h ∷ filter_map row back)
    → c ≡ a ++ drop n b → c ≡ table_text (h ∷ filter_map row (front ++ back))
column row h front back n a b c head was more new =
    new ∙ rw (was, more, filter_map-append row front back) (table-behind h (filter_map row front) (filter_map row back) n head)

same-sizes : (s t : Sizes) → s.answered ≡ t.answered → s.passed ≡ t.passed → s.differences ≡ t.differences → s ≡ t
same-sizes s t a p d = λ i. record { answered = a i; passed = p i; differences = d i }

rows-behind : (row : LineResult → Option Row) (front back : List LineResult)
    → length (filter_map row (front ++ back))
    ≡ length (filter_map row front) + length (filter_map row back)
rows-behind row front back =
    ap length (filter_map-append row front back) ∙ length-append (filter_map row front) (filter_map row back)

pub texts-behind : (h : Heads) (front back : List LineResult) (s t u : ResultTexts)
    → length front + length back < 2 ^ 64 → AreHeads h → AreTexts front s → AreTexts back t
    → u.answers.items ≡ s.answers.items ++ drop h.answers t.answers.items
    → u.report.items ≡ s.report.items ++ drop h.report t.report.items
    → u.passed.items ≡ s.passed.items ++ drop h.passed t.passed.items
    → (s.sizes.answered + t.sizes.answered < 2 ^ 64 → u.sizes.answered ≡ s.sizes.answered + t.sizes.answered)
    → (s.sizes.passed + t.sizes.passed < 2 ^ 64 → u.sizes.passed ≡ s.sizes.passed + t.sizes.passed)
    → (s.sizes.differences + t.sizes.differences < 2 ^ 64
    → u.sizes.differences ≡ s.sizes.differences + t.sizes.differences)
    → AreTexts (front ++ back) u
texts-behind h front back s t u few heads was more a r p na np nd = record {
  answers = column answer_row answers_header front back h.answers _ _ _ heads.answers was.answers more.answers a;
  report = column report_row report_header front back h.report _ _ _ heads.report was.report more.report r;
  passed = column passed_row passed_header front back h.passed _ _ _ heads.passed was.passed more.passed p;
  sizes = same-sizes u.sizes (sizes_of (front ++ back))
      (number answer_row s.sizes.answered t.sizes.answered u.sizes.answered (ap (λ z. z.answered) was.sizes) (ap (λ z. z.answered) more.sizes) na)
      (number passed_row s.sizes.passed t.sizes.passed u.sizes.passed (ap (λ z. z.passed) was.sizes) (ap (λ z. z.passed) more.sizes) np)
      (number report_row s.sizes.differences t.sizes.differences u.sizes.differences (ap (λ z. z.differences) was.sizes) (ap (λ z. z.differences) more.sizes) nd);
}
  where
    number : (row : LineResult → Option Row) (m n k : ℕ) → m ≡ length (filter_map row front)
        → n ≡ length (filter_map row back) → (m + n < 2 ^ 64 → k ≡ m + n)
        → k ≡ length (filter_map row (front ++ back))
    number row m n k e f g =
        let x = few-rows row front in
        let y = few-rows row back in
        let sum : k ≡ m + n = g (omega arith) in
        sum ∙ rw (e, f) (sym (rows-behind row front back))

-- part after part
pub stretch-next : {X : Type 0} (size k : ℕ) (xs : List X)
    → take (k * size) xs ++ take size (drop (k * size) xs) ≡ take ((k + 1) * size) xs
stretch-next size k xs =
    let at : (k + 1) * size ≡ k * size + size = omega arith in rw at (sym (take-add (k * size) size xs))

few-taken : {X : Type 0} (n : ℕ) (xs : List X) → length (take n xs) ≤ length xs
few-taken n xs = omega (arith, length-take n xs)

-- no more than there are
pub stretch-few : {X : Type 0} (size k : ℕ) (xs : List X)
    → length (take (k * size) xs) + length (take size (drop (k * size) xs)) ≤ length xs
stretch-few size k xs =
    let more = ap length (stretch-next size k xs) in
    let both = length-append (take (k * size) xs) (take size (drop (k * size) xs)) in
    omega (arith, few-taken ((k + 1) * size) xs, more, both)

-- a stretch lies between two positions
pub stretch-between : {X : Type 0} (size k from to most : ℕ) (xs : List X) → length xs ≤ most
    → from ≡ min (k * size) most → to ≡ min (from + size) most
    → between from to xs ≡ take size (drop (k * size) xs)
stretch-between size k from to most xs few f t = elim (cases_lt (k * size) (length xs)) [
  | inl inside ↦
      let here : from ≡ k * size = omega arith in
      let rest = length-drop (k * size) xs in
      rw here (elim (cases_lt (k * size + size) most) [
        | inl short ↦ let long : to - k * size ≡ size = omega arith in rw long refl
        | inr past ↦
            let end : to ≡ most = omega arith in
            take_all (to - k * size) (drop (k * size) xs) (omega arith) ∙ sym (take_all size (drop (k * size) xs) (omega arith))
      ])
  | inr past ↦
      let none : drop (k * size) xs ≡ [] = drop_all (k * size) xs past in
      let empty : drop from xs ≡ [] = drop_all from xs (omega arith) in
      let left : length (drop from xs) ≡ 0 = ap length empty in
      let right : length (drop (k * size) xs) ≡ 0 = ap length none in
      take_all (to - from) (drop from xs) (omega arith) ∙ empty ∙ sym none ∙ sym (take_all size (drop (k * size) xs) (omega arith))
]

-- what each thread wrote of each stretch
each-part : (lines : List LineResult) (a n : ℕ) (ys : List ResultTexts) (E : Type 0)
    → AllZip (λ (k : ℕ) (r : Result ResultTexts E). IfOk r (AreTexts (stretch k lines)))
    (range_with_len a n) (map Ok ys)
    → (length ys ≡ n) × ((k : ℕ) (t : ResultTexts) → slice_get ys k ≡ Some t → AreTexts (stretch (a + k) lines) t)
each-part lines a zero [] E h = (refl, λ k t e. cc e)
each-part lines a zero (y ∷ ys) E h = absurd h
each-part lines a (suc n) [] E h = absurd h
each-part lines a (suc n) (y ∷ ys) E h =
    let more = each-part lines (a + 1) n ys E h.1 in
    (ap suc more.0, at more.1)
  where
    at : ((k : ℕ) (t : ResultTexts) → slice_get ys k ≡ Some t
        → AreTexts (stretch (a + 1 + k) lines) t) → (k : ℕ) (t : ResultTexts)
        → slice_get (y ∷ ys) k ≡ Some t → AreTexts (stretch (a + k) lines) t
    at rest zero t e = let same : y ≡ t = cc e in let here : a + zero ≡ a = omega arith in rw (here, ← same) h.0
    at rest (suc k) t e = let here : a + suc k ≡ a + 1 + k = omega arith in rw here (rest k t e)

pub are-parts : (lines : List LineResult) (told n : ℕ) (ks : List ℕ) (ys : List ResultTexts)
    (E : Type 0) → ks ≡ range_with_len told n
    → AllZip (λ (k : ℕ) (r : Result ResultTexts E). IfOk r (AreTexts (stretch k lines))) ks
    (map Ok ys) → (length ys ≡ n) × AreParts told lines ys
are-parts lines told n ks ys E positions h = each-part lines told n ys E (rw positions at h)

-- that number is taken, or all are
pub taken-same : {X : Type 0} (xs : List X) (a b : ℕ)
    → (a ≡ b) ⊎ ((length xs ≤ a) × (length xs ≤ b)) → take a xs ≡ take b xs
taken-same xs a b (inl e) = ap (λ n. take n xs) e
taken-same xs a b (inr all) = take_all a xs all.0 ∙ sym (take_all b xs all.1)

pub between-whole : {X : Type 0} (n : ℕ) (xs : List X) → length xs ≤ n → between 0 n xs ≡ xs
between-whole n xs le = take_all (n - 0) xs (omega arith)

-- the answer that is lent at a position
pub answer-at : (answers : List (Option (Bor Answer))) (i : ℕ) (a : Option (Bor Answer))
    → Some a ≡ slice_get answers i → Some (option_copied a) ≡ slice_get (answers_behind answers) i
answer-at answers i a e = ap (option_map option_copied) e ∙ sym (slice_get-map option_copied answers i)

pub no-answer-at : (answers : List (Option (Bor Answer))) (i : ℕ) → None ≡ slice_get answers i
    → None ≡ slice_get (answers_behind answers) i
no-answer-at answers i e = ap (option_map option_copied) e ∙ sym (slice_get-map option_copied answers i)
