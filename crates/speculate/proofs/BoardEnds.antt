-- A line that isn't on the board has no attempt.
use Rattle.std.proofs.Common.{◌≡◌, ◌∙◌, ℕ, ◌-◌, inl, inr, length, sym, ap, arith}
use Rattle.std.proofs.lemmas.Bool.{cases_lt}
use Rattle.std.proofs.lemmas.List.{get_or_past}
use Rattle.board_steps.specs.Board.{Board, IsLine, Row, blank}
use Rattle.board_steps.proofs.Lines.{row_before, row_from}
use Rattle.speculate.specs.BoardEnds.{attempt_on}

pub none_outside : (b : Board) (line : ℕ) → (IsLine b line → ⊥) → 0 ≡ attempt_on b line
none_outside b line out = elim (cases_lt line b.first) [
  | inl before ↦ ap (λ (r : Row). r.next - 1) (sym (row_before b line before))
  | inr from ↦ elim (cases_lt (line - b.first) (length b.rows)) [
    | inl within ↦ absurd (out (from, omega (arith, within, from)))
    | inr past ↦ ap (λ (r : Row). r.next - 1) (sym (row_from b line from ∙ get_or_past b.rows (line - b.first) blank past))
  ]
]
