-- The result of a line, at its place in the whole run.
use Rattle.std.proofs.Common.{◌≡◌, ◌∙◌, ◌+◌, ◌-◌, ◌<◌, ◌≤◌, ℕ, zero, suc, Bool, true, false, List, [], ◌∷◌, ◌++◌, length, map, Option, Some, None, arith, refl, sym, ap}
use Rattle.std.specs.Prelude.{nat_lt, slice_get, if◌then◌else◌}
use Rattle.std.specs.Option.{option_map_or}
use Rattle.std.proofs.lemmas.Bool.Decides.{nat_tests}
use Rattle.std.proofs.lemmas.List.{length-append}
use Rattle.std.proofs.lemmas.Option.{slice_get_within}
use Rattle.sip_reader.specs.Reading.{reading}
use Rattle.sip_reader.specs.declared.request.Reading.{Reading}
use Rattle.sip_answer.specs.declared.answer.Answer.{Answer}
use Rattle.journal_table.specs.Entry.{Entry, Numbered, NumberedFrom}
use Rattle.read_set.specs.Plans.{Planned, beginning, reading_at}
use Rattle.read_set.specs.Replay.{after, answer_of, one_at}
use Rattle.result_report.specs.Report.{line_results}
use Rattle.replay_run.specs.Answers.{answers_of, first_answers}
use Rattle.why_lines.specs.InRun.{CasesAreOfTheRun}

numbered_from : (n : ℕ) (lines : List Entry) (i : ℕ) (line : Entry) → NumberedFrom n lines → slice_get lines i ≡ Some line → line.number ≡ n + i
numbered_from n [] i line h e = cc
numbered_from n (x ∷ lines) zero line h e = let same : x ≡ line = cc in ap (λ (l : Entry). l.number) (sym same) ∙ h.0 ∙ (omega arith)
numbered_from n (x ∷ lines) (suc i) line h e = numbered_from (n + 1) lines i line h.1 e ∙ (omega arith)

-- a line's number counts on from the first
numbered : (lines : List Entry) (i : ℕ) (line : Entry) → Numbered lines → slice_get lines i ≡ Some line → line.number ≡ beginning lines + i
numbered [] i line h e = cc
numbered (x ∷ lines) zero line h e = let same : x ≡ line = cc in ap (λ (l : Entry). l.number) (sym same) ∙ (omega arith)
numbered (x ∷ lines) (suc i) line h e = numbered_from (x.number + 1) lines i line h e ∙ (omega arith)

read_at : (lines : List Entry) (i : ℕ) (line : Entry) → slice_get lines i ≡ Some line → slice_get (map (λ (l : Entry). reading l.request) lines) i ≡ Some (reading line.request)
read_at [] i line e = cc
read_at (x ∷ lines) zero line e = let same : x ≡ line = cc in ap (λ (l : Entry). Some (reading l.request)) same
read_at (x ∷ lines) (suc i) line e = read_at lines i line e

all_three : (ls : List Entry) (rs : List Reading) (ans : List (Option Answer)) (i : ℕ) (l : Entry) (r : Reading) (a : Option Answer)
    → slice_get ls i ≡ Some l → slice_get rs i ≡ Some r → slice_get ans i ≡ Some a → slice_get (line_results ls rs ans) i ≡ Some (l, r, a)
all_three [] rs ans i l r a e f g = cc
all_three (x ∷ ls) [] ans i l r a e f g = cc
all_three (x ∷ ls) (y ∷ rs) [] i l r a e f g = cc
all_three (x ∷ ls) (y ∷ rs) (z ∷ ans) zero l r a e f g = let p : x ≡ l = cc in let q : y ≡ r = cc in let s : z ≡ a = cc in rw (p, q, s) refl
all_three (x ∷ ls) (y ∷ rs) (z ∷ ans) (suc i) l r a e f g = all_three ls rs ans i l r a e f g

push_in : {X : Type 0} (xs : List X) (y : X) (i : ℕ) → i < length xs → slice_get (xs ++ y ∷ []) i ≡ slice_get xs i
push_in [] y i lt = absurd (omega (arith, lt))
push_in (x ∷ xs) y zero lt = refl
push_in (x ∷ xs) y (suc i) lt = push_in xs y i (omega (arith, lt))

push_at : {X : Type 0} (xs : List X) (y : X) (i : ℕ) → i ≡ length xs → slice_get (xs ++ y ∷ []) i ≡ Some y
push_at [] y zero e = refl
push_at [] y (suc i) e = absurd (omega (arith, e))
push_at (x ∷ xs) y zero e = absurd (omega (arith, e))
push_at (x ∷ xs) y (suc i) e = push_at xs y i (omega (arith, e))

-- an answer for each of the first lines
as_many : (plan : Planned) (n : ℕ) → length (first_answers plan n) ≡ n
as_many plan zero = refl
as_many plan (suc n) =
    let more : length (first_answers plan (suc n)) ≡ length (first_answers plan n) + 1 = length-append (first_answers plan n) _ in
    more ∙ ap (λ m. m + 1) (as_many plan n) ∙ (omega arith)

next_answer : (plan : Planned) (n i : ℕ) (b : Bool) → nat_lt i n ≡ b → i < suc n
    → (i < n → slice_get (first_answers plan n) i ≡ Some (one_at plan (plan.first + i) (after plan i)).1)
    → slice_get (first_answers plan (suc n)) i ≡ Some (one_at plan (plan.first + i) (after plan i)).1
next_answer plan n i true is lt before =
    let below : i < n = grind (arith, nat_tests) in
    let within : i < length (first_answers plan n) = omega (arith, below, as_many plan n) in
    push_in (first_answers plan n) _ i within ∙ before below
next_answer plan n i false is lt before =
    let above : n ≤ i = grind (arith, nat_tests) in
    let last : i ≡ n = omega (arith, above, lt) in
    push_at (first_answers plan n) (one_at plan (plan.first + n) (after plan n)).1 i (last ∙ sym (as_many plan n))
    ∙ ap (λ m. Some (one_at plan (plan.first + m) (after plan m)).1) (sym last)

answer_at : (plan : Planned) (n i : ℕ) → i < n → slice_get (first_answers plan n) i ≡ Some (one_at plan (plan.first + i) (after plan i)).1
answer_at plan zero i lt = absurd (omega (arith, lt))
answer_at plan (suc n) i lt = next_answer plan n i (nat_lt i n) refl lt (answer_at plan n i)

place_back : (a i : ℕ) → a + i - a ≡ i
place_back a i = omega arith

not_before : (a i : ℕ) → nat_lt (a + i) a ≡ false
not_before a i = by (nat_lt (a + i) a) refl
  where
    by : (b : Bool) → nat_lt (a + i) a ≡ b → nat_lt (a + i) a ≡ false
    by false is = is
    by true is = absurd (let less : a + i < a = grind (arith, nat_tests) in omega (arith, less))

pub of_the_run : CasesAreOfTheRun
of_the_run plan lines i line same first rises at =
    let number : line.number ≡ plan.first + i = numbered lines i line rises at ∙ ap (λ n. n + i) (sym first) in
    let read : slice_get plan.readings i ≡ Some (reading line.request) = ap (λ (rs : List Reading). slice_get rs i) same ∙ read_at lines i line at in
    let there : reading_at plan line.number ≡ Some (reading line.request) =
    ap (reading_at plan) number
    ∙ ap (λ b. if b then None else slice_get plan.readings (plan.first + i - plan.first)) (not_before plan.first i)
    ∙ ap (λ n. slice_get plan.readings n) (place_back plan.first i)
    ∙ read in
    let answer : slice_get (answers_of plan) i ≡ Some (answer_of plan line.number) =
    answer_at plan (length plan.readings) i (slice_get_within plan.readings i (reading line.request) read)
    ∙ sym (
    ap (λ n. Some (answer_of plan n)) number
    ∙ ap (λ m. Some (one_at plan (plan.first + i) (after plan m)).1) (place_back plan.first i)
    ) in (
      (line, reading line.request, answer_of plan line.number),
      ap (λ (o : Option Reading). option_map_or (λ r. (line, r, answer_of plan line.number) ∷ []) o []) there,
      all_three lines plan.readings (answers_of plan) i line (reading line.request) (answer_of plan line.number) at read answer,
    )
