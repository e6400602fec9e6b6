-- The opening board.
use Rattle.std.proofs.Common.{◌≡◌, ℕ, zero, suc, ◌+◌, ◌-◌, ◌<◌, List, [], ◌∷◌, ◌++◌, map, Option, Some, None, length, replicate, get_or, slice_get, refl, sym, ap, ap₂, subst, ◌∙◌, inl, inr, arith}
use Rattle.std.proofs.lemmas.Bool.{cases_lt}
use Rattle.std.proofs.lemmas.List.{get_or_past, get_or-replicate, length-replicate}
use Rattle.std.proofs.lemmas.Option.{none-some}
use Rattle.read_set.specs.Plans.{Planned}
use Rattle.attempts.specs.Moves.{no_row}
use Rattle.attempts.specs.States.{States, all_waiting}
use Rattle.attempts.specs.declared.state.LineState.TheVariants as states
use Rattle.attempts.specs.declared.table.AttemptRow as attempt
use Rattle.version_store.specs.Entries as store
use Rattle.board_steps.specs.Board.{Row, Board, blank, row_at, holder}
use Rattle.board_steps.specs.Board.State.{Waiting, Placing}
use Rattle.board_steps.specs.Reached.{Reached}
use Rattle.board_steps.specs.Steps.{opening, opening_row}
use Rattle.board_steps.proofs.Lines.{row_before, row_from}
use Rattle.board_steps.proofs.Histories.{opening_reached}
use Rattle.board_lines.specs.declared.row.LineRow as kept
use Rattle.board_lines.specs.Parts.{row_shown, Kept, Parts, no_notes, row_with, row_by, board_of, IsKept}
use Rattle.board_lines.proofs.Firsts.{first_replicate}
use Rattle.board_lines.proofs.Moves.{board_eq}

-- a line that never began
record IsNew (l : Row) : Type 0 where
  pub waits : l.state ≡ Waiting
  pub zero : l.changed ≡ 0

new_at : (count attempt m : ℕ) → IsNew (get_or (replicate count (opening_row attempt)) m blank)
new_at zero attempt m = subst IsNew (sym (get_or_past [] m blank (omega arith))) (record { waits = refl; zero = refl })
new_at (suc count) attempt zero = record { waits = refl; zero = refl }
new_at (suc count) attempt (suc m) = new_at count attempt m

opening_new : (plan : Planned) (workers attempt clock m : ℕ) → IsNew (row_at (opening plan workers attempt clock) m)
opening_new plan workers attempt clock m = elim (cases_lt m plan.first) [
  | inl early ↦ subst IsNew (sym (row_before (opening plan workers attempt clock) m early)) (record { waits = refl; zero = refl })
  | inr late ↦ subst IsNew (sym (row_from (opening plan workers attempt clock) m late)) (new_at (length plan.readings) attempt (m - plan.first))
]

nothing_held : (count w n : ℕ) → slice_get (replicate {A = Option ℕ} count None) w ≡ Some (Some n) → ⊥
nothing_held zero w n h = absurd (none-some (Some n) h)
nothing_held (suc count) zero n h = (let two : ◌≡◌ {A = Option (Option ℕ)} (Some None) (Some (Some n)) = h in cc)
nothing_held (suc count) (suc w) n h = nothing_held count w n h

module _ (plan : Planned) (workers number clock : ℕ) (q : Parts)
    (states_is : q.states ≡ all_waiting plan.first (length plan.readings) number) (store_is : q.store ≡ store.none_placed plan.first (length plan.readings))
    (rows_is : q.rows ≡ replicate (length plan.readings) no_notes) (hands_is : q.hands ≡ replicate workers None)
    (clock_is : q.clock ≡ clock) (latest_is : q.latest ≡ 0) where
  many : length q.rows ≡ length plan.readings
  many = ap (λ (x : List Kept). length x) rows_is ∙ length-replicate (length plan.readings) no_notes

  each : (p : ℕ) → p < length q.rows → row_by plan.base q p ≡ opening_row number
  each p lt =
      let r : attempt.AttemptRow = record { state = states.Waiting; next = number } in
      let n = length plan.readings in
      let l : p < n = omega (arith, lt, many) in
      ap (λ (x : States). row_with plan.base (get_or x.rows p no_row) (get_or q.rows p no_notes) (get_or q.store.lines p store.no_entries)) states_is
      ∙ ap (λ (x : List Kept). row_with plan.base (get_or (replicate n r) p no_row) (get_or x p no_notes) (get_or q.store.lines p store.no_entries)) rows_is
      ∙ ap (λ (x : store.Store). row_with plan.base (get_or (replicate n r) p no_row) (get_or (replicate n no_notes) p no_notes) (get_or x.lines p store.no_entries)) store_is
      ∙ ap (λ (x : attempt.AttemptRow). row_with plan.base x (get_or (replicate n no_notes) p no_notes) (get_or (store.no_rows n) p store.no_entries)) (get_or-replicate n p r no_row l)
      ∙ ap (λ (x : Kept). row_with plan.base r x (get_or (store.no_rows n) p store.no_entries)) (get_or-replicate n p no_notes no_notes l)
      ∙ ap (λ (x : store.Line). row_with plan.base r no_notes x) (get_or-replicate n p store.no_entries store.no_entries l)

  pub opening_board : board_of plan.base q ≡ opening plan workers number clock
  opening_board = board_eq _ _
      (ap (λ (x : States). x.first) states_is)
      (first_replicate (row_by plan.base q) (length q.rows) (opening_row number) each ∙ ap (λ n. replicate n (opening_row number)) many)
      (ap (λ (x : List (Option ℕ)). length x) hands_is ∙ length-replicate workers None)
      clock_is
      (ap (λ (x : States). x.counts.commits) states_is)
      (ap (λ (x : States). x.counts.takes) states_is)
      (ap (λ (x : States). x.counts.failed) states_is)
      (ap (λ (x : States). x.counts.stops) states_is)

  still : (m : ℕ) → IsNew (row_at (board_of plan.base q) m)
  still m = subst (λ (b : Board). IsNew (row_at b m)) (sym opening_board) (opening_new plan workers number clock m)

  pub opening_kept : IsKept plan q
  opening_kept = record {
    reached = subst (Reached plan) (sym opening_board) (opening_reached plan workers number clock);
    same_first = ap (λ (x : store.Store). x.first) store_is ∙ sym (ap (λ (x : States). x.first) states_is);
    all_states = ap (λ (x : States). length x.rows) states_is ∙ length-replicate (length plan.readings) (record { state = states.Waiting; next = number }) ∙ sym many;
    all_entries = ap (λ (x : store.Store). length x.lines) store_is ∙ length-replicate (length plan.readings) store.no_entries ∙ sym many;
    hand = λ w n. (
      λ h. absurd (nothing_held workers w n (subst (λ (x : List (Option ℕ)). slice_get x w ≡ Some (Some n)) hands_is h)),
      λ h. absurd (none-some w (sym (ap holder (still n).waits) ∙ h)),
    );
    under_way = λ n w notes last h. (let z : Waiting ≡ Placing w notes last = sym (still n).waits ∙ h in absurd (cc));
    below = λ m lt. omega (arith, (still m).zero);
    attained = inl latest_is;
  }

-- the same, by what the code has of the plan
pub opening_here : (plan now : Planned) (workers number clock lines first second : ℕ) (q : Parts) → now ≡ plan → lines ≡ length now.readings → first ≡ now.first → second ≡ now.first
    → q.states ≡ all_waiting first lines number → q.store ≡ store.none_placed second lines → q.rows ≡ replicate lines no_notes → q.hands ≡ replicate workers None → q.clock ≡ clock → q.latest ≡ 0
    → IsKept plan q × (board_of now.base q ≡ opening plan workers number clock)
opening_here plan now workers number clock lines first second q named many from from_too states_is store_is rows_is hands_is clock_is latest_is =
    let count : lines ≡ length plan.readings = many ∙ ap (λ (x : Planned). length x.readings) named in
    let f = ap (λ (x : Planned). x.first) named in
    let s = states_is ∙ ap (λ x. all_waiting x lines number) (from ∙ f) ∙ ap (λ x. all_waiting plan.first x number) count in
    let t = store_is ∙ ap (λ x. store.none_placed x lines) (from_too ∙ f) ∙ ap (λ x. store.none_placed plan.first x) count in
    let r = rows_is ∙ ap (λ x. replicate x no_notes) count in (
      opening_kept plan workers number clock q s t r hands_is clock_is latest_is,
      ap (λ (x : Planned). board_of x.base q) named ∙ opening_board plan workers number clock q s t r hands_is clock_is latest_is,
    )

-- one more row that shows no notes
replicate_more : {X : Type 0} (i : ℕ) (x : X) → replicate i x ++ x ∷ [] ≡ replicate (suc i) x
replicate_more zero x = refl
replicate_more (suc i) x = ap (λ xs. x ∷ xs) (replicate_more i x)

replicate_next : {X : Type 0} (i n : ℕ) (x : X) → n ≡ suc i → replicate i x ++ x ∷ [] ≡ replicate n x
replicate_next i n x e = replicate_more i x ∙ ap (λ k. replicate k x) (sym e)

map_push : {A B : Type 0} (f : A → B) (xs : List A) (x : A) → map f (xs ++ x ∷ []) ≡ map f xs ++ f x ∷ []
map_push f [] x = refl
map_push f (y ∷ ys) x = ap (λ zs. f y ∷ zs) (map_push f ys x)

pub rows_more : {J : Type 0} (rows : List (kept.LineRow J)) (x : kept.LineRow J) (i : ℕ) → map row_shown rows ≡ replicate i no_notes → row_shown x ≡ no_notes
    → map row_shown (rows ++ x ∷ []) ≡ replicate (i + 1) no_notes
rows_more rows x i h e = map_push row_shown rows x ∙ ap₂ (λ (ks : List Kept) (k : Kept). ks ++ k ∷ []) h e ∙ replicate_next i (i + 1) no_notes (omega arith)
