-- The opening board, whole runs, and what they say of committed lines.
use Rattle.std.proofs.Common.{◌≡◌, ℕ, zero, suc, ◌+◌, ◌-◌, ◌<◌, ◌≤◌, List, [], ◌∷◌, Option, Some, None, length, replicate, get_or, sum_by, refl, sym, ap, subst, ◌∙◌, inl, inr, arith}
use Rattle.std.specs.FinMap.{get-empty}
use Rattle.std.proofs.lemmas.Option.{none-some}
use Rattle.std.proofs.lemmas.Bool.{cases_lt}
use Rattle.std.proofs.lemmas.List.{get_or_past, length-replicate}
use Rattle.circ_records.specs.Keys.{key_cmp}
use Rattle.circ_records.specs.declared.key.Key.{Key}
use Rattle.sip_answer.specs.declared.answer.Answer.{Answer}
use Rattle.read_set.specs.Plans.{Planned}
use Rattle.read_set.specs.Replay.{before, after, last}
use Rattle.read_set.specs.declared.notes.Note.{Note}
use Rattle.board_steps.specs.Board.{Row, State, Board, IsLine, blank, row_at, entry, IsCommitted, holder, live_of, value_at}
use Rattle.board_steps.specs.Board.State.{Waiting, Running, Placing, Done, Checking, Committed}
use Rattle.board_steps.specs.Reached.{Held, NoneSuspect, StateOk, RowOk, CommittedOk, DoneOk, CheckingOk, Reached}
use Rattle.board_steps.specs.Steps.{Call, Reply, opening_row, opening, Run}
use Rattle.board_steps.proofs.Lines.{row_before, row_from}
use Rattle.board_steps.proofs.Steps.{step_reached}
use Rattle.board_steps.proofs.Truth.{value_before}

-- a line that never began
pub record IsUnbegun (l : Row) : Type 0 where
  pub waits : l.state ≡ Waiting
  pub zero : l.changed ≡ 0
  pub none : (k : Key) → entry l k ≡ None

unbegun_opening : (attempt : ℕ) → IsUnbegun (opening_row attempt)
unbegun_opening attempt = record { waits = refl; zero = refl; none = λ k. get-empty key_cmp k }

unbegun_blank : IsUnbegun blank
unbegun_blank = record { waits = refl; zero = refl; none = λ k. get-empty key_cmp k }

unbegun_at : (count attempt m : ℕ) → IsUnbegun (get_or (replicate count (opening_row attempt)) m blank)
unbegun_at zero attempt m = subst IsUnbegun (sym (get_or_past [] m blank (omega arith))) unbegun_blank
unbegun_at (suc count) attempt zero = unbegun_opening attempt
unbegun_at (suc count) attempt (suc m) = unbegun_at count attempt m

row_unbegun : (plan : Planned) (rows : ℕ → Row) (clock m : ℕ) (l : Row) → IsUnbegun l → RowOk plan rows clock m l
row_unbegun plan rows clock m l u =
    record {
      begun = λ k e h. absurd (none-some e (sym (u.none k) ∙ h));
      past = omega (arith, u.zero);
      state = subst (StateOk plan rows clock m l) (sym u.waits) tt;
    }

live_opening : (attempt : ℕ) → (count : ℕ) → sum_by (λ (l : Row). live_of l.state) (replicate count (opening_row attempt)) ≡ 0
live_opening attempt zero = refl
live_opening attempt (suc count) = omega (arith, live_opening attempt count)

opening_at : (plan : Planned) (workers attempt clock m : ℕ) → IsUnbegun (row_at (opening plan workers attempt clock) m)
opening_at plan workers attempt clock m = elim (cases_lt m plan.first) [
  | inl early ↦ subst IsUnbegun (sym (row_before (opening plan workers attempt clock) m early)) unbegun_blank
  | inr late ↦ subst IsUnbegun (sym (row_from (opening plan workers attempt clock) m late)) (unbegun_at (length plan.readings) attempt (m - plan.first))
]

pub opening_reached : (plan : Planned) (workers attempt clock : ℕ) → Reached plan (opening plan workers attempt clock)
opening_reached plan workers attempt clock =
    record {
      first = refl;
      all = length-replicate (length plan.readings) (opening_row attempt);
      rows = record {
        first = λ m le lt. absurd (omega arith);
        only = λ m h. absurd (subst IsCommitted (opening_at plan workers attempt clock m).waits h);
        bare = λ m lt k. (opening_at plan workers attempt clock m).none k;
        each = λ m. row_unbegun plan (row_at (opening plan workers attempt clock)) clock m (row_at (opening plan workers attempt clock) m) (opening_at plan workers attempt clock m);
      };
      counted = omega (arith, live_opening attempt (length plan.readings));
      hands = λ m q w hm hq. absurd (none-some w (ap holder (sym (opening_at plan workers attempt clock m).waits) ∙ hm));
    }

pub run_reached : (plan : Planned) (steps : List (Call × Reply)) (old new : Board) → Reached plan old → Run plan old steps new → Reached plan new
run_reached plan [] old new ok run = subst (Reached plan) (sym run) ok
run_reached plan (s ∷ steps) old new ok run =
    run_reached plan steps run.1.0 new (step_reached plan old run.1.0 s.0 s.1 ok run.0 run.1.1) run.1.2

module _ (plan : Planned) (b : Board) (ok : Reached plan b) where
  pub held_done : (n : ℕ) (notes : List Note) (answer : Option Answer) (t : ℕ) → (row_at b n).state ≡ Done notes answer (Some t) → Held (row_at b) n notes t (length notes)
  held_done n notes answer t e =
      let d : DoneOk plan (row_at b) b.clock n (row_at b n) notes answer (Some t) = subst (StateOk plan (row_at b) b.clock n (row_at b n)) e (ok.rows.each n).state in
      (d.held t refl).1

  pub held_checking : (w n : ℕ) (notes : List Note) (answer : Option Answer) (t i : ℕ) → (row_at b n).state ≡ Checking w notes answer t i → Held (row_at b) n notes t i
  held_checking w n notes answer t i e =
      let d : CheckingOk plan (row_at b) b.clock n (row_at b n) notes answer t i = subst (StateOk plan (row_at b) b.clock n (row_at b n)) e (ok.rows.each n).state in
      d.held

  pub committed_ok : (n : ℕ) (answer : Option Answer) → (row_at b n).state ≡ Committed answer → CommittedOk plan n (row_at b n) answer
  committed_ok n answer e = subst (StateOk plan (row_at b) b.clock n (row_at b n)) e (ok.rows.each n).state

  pub all_committed : (n : ℕ) → ((m : ℕ) → plan.first ≤ m → m < n → IsCommitted (row_at b m).state) → (k : Key) → value_at plan (row_at b) n k ≡ before plan n k
  all_committed n all = value_before plan (row_at b) b.clock ok.rows.each ok.rows.bare n all

-- no entry of a committed line is suspect
clear_in : (plan : Planned) (rows : ℕ → Row) (clock n : ℕ) (r : Row) (s : State) → StateOk plan rows clock n r s → IsCommitted s → NoneSuspect r
clear_in plan rows clock n r (Committed answer) h is = h.clear
clear_in plan rows clock n r Waiting h is = absurd is
clear_in plan rows clock n r (Running w notes) h is = absurd is
clear_in plan rows clock n r (Placing w notes last) h is = absurd is
clear_in plan rows clock n r (Done notes answer stamp) h is = absurd is
clear_in plan rows clock n r (Checking w notes answer t i) h is = absurd is

pub committed_clear : (plan : Planned) (b : Board) → Reached plan b → (n : ℕ) → IsCommitted (row_at b n).state → NoneSuspect (row_at b n)
committed_clear plan b ok n is = clear_in plan (row_at b) b.clock n (row_at b n) (row_at b n).state (ok.rows.each n).state is

-- all lines are committed: what is visible past the last is what one thread leaves
pub last_committed : (plan : Planned) (b : Board) → Reached plan b → ((m : ℕ) → IsLine b m → IsCommitted (row_at b m).state) → (k : Key) → value_at plan (row_at b) (b.first + length b.rows) k ≡ last plan k
last_committed plan b ok all k =
    all_committed plan b ok (b.first + length b.rows) (λ m le lt. all m (omega (arith, le, ok.first), lt)) k
    ∙ (let z : b.first + length b.rows - plan.first ≡ length plan.readings = omega (arith, ok.first, ok.all) in ap (λ x. after plan x k) z)
