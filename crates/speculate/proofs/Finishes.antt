-- If all lines are committed, each line's answer is that of the replay by one thread.
use Rattle.std.proofs.Common.{◌≡◌, ℕ, ◌+◌, ◌-◌, ◌<◌, ◌≤◌, Option, None, length, slice_get, refl, sym, ap, ◌∙◌, inl, inr, arith}
use Rattle.std.specs.Prelude.{if◌then◌else◌, nat_lt, true, false}
use Rattle.std.proofs.lemmas.Bool.{cases_lt}
use Rattle.std.proofs.lemmas.Bool.Decides.{nat_tests}
use Rattle.std.proofs.lemmas.List.{get_or_past}
use Rattle.std.proofs.lemmas.Option.{slice_get_past}
use Rattle.sip_reader.specs.declared.request.Reading.{Reading}
use Rattle.read_set.specs.Plans.{Planned, reading_at}
use Rattle.read_set.specs.Replay.{answer_of, before, one_by}
use Rattle.board_steps.specs.Board.{Board, IsCommitted, Row, State, blank, row_at}
use Rattle.board_steps.specs.Board.State.{Waiting, Running, Placing, Done, Checking, Committed}
use Rattle.board_steps.specs.Reached.{Reached}
use Rattle.board_steps.proofs.Histories.{committed_ok}
use Rattle.board_steps.proofs.Lines.{row_before, row_from}
use Rattle.board_lines.specs.Committed.{committed_answer}
use Rattle.speculate.specs.Finishing.{IsWhole}

module _ (plan : Planned) (b : Board) (reached : Reached plan b) where
  -- as many are committed as there are
  pub whole_if : length plan.readings ≤ b.committed → IsWhole b
  whole_if all m there = reached.rows.first m (omega (arith, there.0, reached.first)) (omega (arith, there.1, reached.first, reached.all, all))

  -- where all lines are committed, the number of those that are is that of the lines
  pub all_if : IsWhole b → length plan.readings ≤ b.committed
  all_if whole = elim (cases_lt b.committed (length plan.readings)) [
    | inl lt ↦
        let q : ℕ = plan.first + b.committed in
        let is : IsCommitted (row_at b q).state = whole q (omega (arith, reached.first), omega (arith, lt, reached.first, reached.all)) in
        absurd (omega (arith, reached.rows.only q is))
    | inr le ↦ le
  ]

  state_answer : (n : ℕ) (s : State) → (row_at b n).state ≡ s → IsCommitted s → committed_answer s ≡ answer_of plan n
  state_answer n (Committed answer) is h = (committed_ok plan b reached n answer is).answers
  state_answer n Waiting is h = absurd h
  state_answer n (Running w notes) is h = absurd h
  state_answer n (Placing w notes last) is h = absurd h
  state_answer n (Done notes answer stamp) is h = absurd h
  state_answer n (Checking w notes answer t i) is h = absurd h

  blank_answer : (n : ℕ) → row_at b n ≡ blank → reading_at plan n ≡ None → committed_answer (row_at b n).state ≡ answer_of plan n
  blank_answer n is none =
      ap (λ (r : Row). committed_answer r.state) is ∙ sym (ap (λ (r : Option Reading). (one_by plan n r (before plan n)).1) none)

  unread_before : (n : ℕ) → n < plan.first → reading_at plan n ≡ None
  unread_before n lt = let e : nat_lt n plan.first ≡ true = grind (arith, nat_tests) in ap (λ t. if t then None else slice_get plan.readings (n - plan.first)) e

  unread_past : (n : ℕ) → plan.first ≤ n → length plan.readings ≤ n - plan.first → reading_at plan n ≡ None
  unread_past n le past =
      let e : nat_lt n plan.first ≡ false = grind (arith, nat_tests) in
      ap (λ t. if t then None else slice_get plan.readings (n - plan.first)) e ∙ slice_get_past plan.readings (n - plan.first) past

  -- the answer of a committed line is that of the replay; a line that isn't there has none
  pub whole_answer : IsWhole b → (n : ℕ) → committed_answer (row_at b n).state ≡ answer_of plan n
  whole_answer whole n = elim (cases_lt n plan.first) [
    | inl lt ↦ blank_answer n (row_before b n (omega (arith, lt, reached.first))) (unread_before n lt)
    | inr le ↦ elim (cases_lt (n - plan.first) (length plan.readings)) [
      | inl within ↦ state_answer n (row_at b n).state refl (whole n (omega (arith, le, reached.first), omega (arith, le, within, reached.first, reached.all)))
      | inr past ↦ blank_answer n (row_from b n (omega (arith, le, reached.first)) ∙ get_or_past b.rows (n - b.first) blank (omega (arith, past, reached.first, reached.all))) (unread_past n le past)
    ]
  ]
