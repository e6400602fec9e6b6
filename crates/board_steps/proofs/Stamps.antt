-- A change of one line: the stamps above it count no more, and nothing else changes.
use Rattle.std.proofs.Common.{◌≡◌, ◌≢◌, ℕ, ◌+◌, ◌<◌, ◌≤◌, List, Option, Some, refl, ap, subst, ◌∙◌, inl, inr, arith}
use Rattle.std.proofs.lemmas.Option.{same_Some}
use Rattle.std.proofs.lemmas.Bool.{cases_eq}
use Rattle.sip_answer.specs.declared.answer.Answer.{Answer}
use Rattle.read_set.specs.Plans.{Planned}
use Rattle.read_set.specs.declared.notes.Note.{Note}
use Rattle.board_steps.specs.Board.{Row, Board, IsLine, row_at}
use Rattle.board_steps.specs.Board.State.{Done}
use Rattle.board_steps.specs.Choice.{StampCounts, NeedsCheck}
use Rattle.board_steps.specs.Reached.{Reached, DoneOk}
use Rattle.board_steps.specs.Steps.{changing}
use Rattle.board_steps.proofs.Calls.{state_is}
use Rattle.board_steps.proofs.Lines.{row_put, row_put_off}

module _ (plan : Planned) (b : Board) (ok : Reached plan b) (m : ℕ) (r : Row) (within : IsLine b m) where
  new : Row
  new = record r { changed = b.clock + 1 }

  state_off : (n : ℕ) → n ≢ m → (row_at (changing b m r) n).state ≡ (row_at b n).state
  state_off n ne = ap (λ (l : Row). l.state) (row_put_off b m (record r { changed = b.clock + 1 }) n ne)

  changed_off : (n : ℕ) → n ≢ m → (row_at (changing b m r) n).changed ≡ (row_at b n).changed
  changed_off n ne = ap (λ (l : Row). l.changed) (row_put_off b m (record r { changed = b.clock + 1 }) n ne)

  changed_here : (row_at (changing b m r) m).changed ≡ b.clock + 1
  changed_here = ap (λ (l : Row). l.changed) (row_put b m (record r { changed = b.clock + 1 }) within)

  stamp_past : (n : ℕ) (notes : List Note) (answer : Option Answer) (t : ℕ) → (row_at b n).state ≡ Done notes answer (Some t) → t ≤ b.clock
  stamp_past n notes answer t e =
      let d : DoneOk plan (row_at b) b.clock n (row_at b n) notes answer (Some t) = state_is plan b n ok (Done notes answer (Some t)) e in
      (d.held t refl).0

  pub above_change : (n : ℕ) → m < n → StampCounts (row_at b) n → NeedsCheck (row_at (changing b m r)) n
  above_change n lt c = (
    c.0,
    c.1,
    Some c.2,
    state_off n (λ e. omega arith) ∙ c.3,
    λ t h. (m, lt, omega (arith, same_Some c.2 t h, stamp_past n c.0 c.1 c.2 c.3, changed_here)),
  )

  pub below_change : (n : ℕ) → n < m → StampCounts (row_at b) n → StampCounts (row_at (changing b m r)) n
  below_change n lt c =
      (c.0, c.1, c.2, state_off n (λ e. omega arith) ∙ c.3, λ q h. omega (arith, c.4 q h, changed_off q (λ e. omega arith)))

  pub check_stays_needed : (n : ℕ) → n ≢ m → NeedsCheck (row_at b) n → NeedsCheck (row_at (changing b m r)) n
  check_stays_needed n ne c = (
    c.0,
    c.1,
    c.2,
    state_off n ne ∙ c.3,
    λ t h.
        let w = c.4 t h in
        elim (cases_eq w.0 m) [
          | inl e ↦ (m, subst (λ x. x < n) e w.1, omega (arith, changed_here, w.2, (ok.rows.each w.0).past))
          | inr off ↦ (w.0, w.1, omega (arith, changed_off w.0 off, w.2))
        ],
  )
