-- What the state and the row of a line say of it.
use Rattle.std.proofs.Common.{◌≡◌, ◌≢◌, ℕ, ◌+◌, ◌-◌, true, false, List, Option, Some, None, slice_get, refl, sym, ap, subst, ◌∙◌, inl, inr, arith, length}
use Rattle.std.proofs.lemmas.Bool.{cases_lt}
use Rattle.std.proofs.lemmas.List.{get_or_past}
use Rattle.std.proofs.lemmas.Option.{same_Some}
use Rattle.circ_records.specs.declared.key.Key.{Key}
use Rattle.read_set.specs.Plans.{Planned}
use Rattle.read_set.specs.Settling.{Contents}
use Rattle.read_set.specs.declared.notes.Note.{Note}
use Rattle.attempts.specs.States.{state_at}
use Rattle.attempts.specs.declared.state.LineState.{LineState}
use Rattle.attempts.specs.declared.state.LineState.TheVariants as states
use Rattle.board_steps.specs.Board.{State, Row, Board, IsLine, blank, row_at, holder, live_of}
use Rattle.board_steps.specs.Board.State.{Running, Placing}
use Rattle.board_steps.specs.Steps.{MayLook, MayPublish}
use Rattle.board_steps.proofs.Lines.{row_before, row_from}
use Rattle.board_lines.specs.Acts.{notes_at}
use Rattle.board_lines.specs.Committed.{committed_answer}
use Rattle.board_lines.specs.Hands.{notes_of}
use Rattle.board_lines.specs.Notes.{is_noted, notes_by}
use Rattle.board_lines.specs.Parts.{IsKept, Kept, Parts, Stands, answer_by, board_of, kept_at, state_of}
use Rattle.board_lines.proofs.Commits.{line_there, state_there}
use Rattle.board_lines.proofs.Moves.{running_state, placing_state}
use Rattle.board_lines.proofs.Publications.{published_state}
use Rattle.board_lines.proofs.Rows.{held_notes, live_notes}
use Rattle.board_lines.proofs.Sights.{noted_some, unnoted_each}

pub row_stands : (plan : Planned) (a : Parts) (kept : IsKept plan a) (n : ℕ) (s : LineState) → state_at a.states n ≡ Some s → Stands plan (board_of plan.base a) n s (kept_at a n)
row_stands plan a kept n s is = record {
  reached = kept.reached;
  there = line_there plan a kept n s is;
  state = state_there plan a kept n s is;
  under_way = kept.under_way n;
}

-- a line that isn't there has no answer
pub no_line_answer : (b : Board) (n : ℕ) → (IsLine b n → ⊥) → None ≡ committed_answer (row_at b n).state
no_line_answer b n none = elim (cases_lt n b.first) [
  | inl before ↦ ap (λ (r : Row). committed_answer r.state) (sym (row_before b n before))
  | inr from ↦ elim (cases_lt n (b.first + length b.rows)) [
    | inl within ↦ absurd (none (from, within))
    | inr past ↦ ap (λ (r : Row). committed_answer r.state) (sym (row_from b n from ∙ get_or_past b.rows (n - b.first) blank (omega (arith, past))))
  ]
]

uncommitted : (s : LineState) (notes : List Note) (contents : Option Contents) → (s ≡ states.Committed → ⊥) → committed_answer (state_of s notes contents) ≡ None
uncommitted states.Waiting notes contents h = refl
uncommitted (states.Running w) notes contents h = refl
uncommitted (states.Placing w) notes contents h = refl
uncommitted (states.Done t) notes contents h = refl
uncommitted (states.Checking w t i) notes contents h = refl
uncommitted states.Committed notes contents h = absurd (h refl)

is_running : (x : State) (v w : ℕ) (notes : List Note) → x ≡ Running v notes → holder x ≡ Some w → x ≡ Running w (notes_of x)
is_running x v w notes e held =
    e ∙ ap (λ (y : ℕ). Running y notes) (same_Some v w (sym (ap holder e) ∙ held)) ∙ ap (λ (ns : List Note). Running w ns) (sym (ap notes_of e))

is_placing : (x : State) (v w : ℕ) (notes : List Note) (last : Option Contents) → x ≡ Placing v notes last → holder x ≡ Some w → x ≡ Placing w (notes_of x) last
is_placing x v w notes last e held =
    e ∙ ap (λ (y : ℕ). Placing y notes last) (same_Some v w (sym (ap holder e) ∙ held)) ∙ ap (λ (ns : List Note). Placing w ns last) (sym (ap notes_of e))

module _ (plan : Planned) (b : Board) (n : ℕ) (s : LineState) (k : Kept) (at : Stands plan b n s k) where
  state_with : (t : LineState) → s ≡ t → (row_at b n).state ≡ state_of t (notes_by plan.base k.notes) k.contents
  state_with t is = at.state ∙ ap (λ (x : LineState). state_of x (notes_by plan.base k.notes) k.contents) is

  pub noted_live : live_of (row_at b n).state ≡ 1 → notes_of (row_at b n).state ≡ notes_by plan.base k.notes
  noted_live h = ap notes_of at.state ∙ live_notes s _ _ (sym (ap live_of at.state) ∙ h)

  pub noted_may : (w : ℕ) (notes : List Note) → MayPublish b w n notes → notes ≡ notes_by plan.base k.notes
  noted_may w notes may = (published_state s _ _ _ at.state w notes may).1

  pub no_answer : (s ≡ states.Committed → ⊥) → None ≡ committed_answer (row_at b n).state
  no_answer not = sym (ap committed_answer at.state ∙ uncommitted s _ _ not)

  pub its_answer : s ≡ states.Committed → answer_by k.contents ≡ committed_answer (row_at b n).state
  its_answer is = sym (ap committed_answer (state_with states.Committed is))

  -- a worker has the line in hand, and so no other
  module _ (w : ℕ) (held : holder (row_at b n).state ≡ Some w) where
    pub noted_held : notes_of (row_at b n).state ≡ notes_by plan.base k.notes
    noted_held = ap notes_of at.state ∙ held_notes s _ _ w (sym (ap holder at.state) ∙ held)

    here : (m : ℕ) (x : State) → holder x ≡ Some w → (row_at b m).state ≡ x → state_of s (notes_by plan.base k.notes) k.contents ≡ x
    here m x h e = sym at.state ∙ subst (λ y. (row_at b y).state ≡ x) (at.reached.hands m n w (ap holder e ∙ h) held) e

    pub not_running : ((v : ℕ) → s ≡ states.Running v → ⊥) → (key : Key) (m : ℕ) (notes : List Note) → MayLook b w key m notes → ⊥
    not_running not key m notes may = not w (running_state s _ notes _ w (here m (Running w notes) refl may.running)).0

    pub not_unnoted : (key : Key) → is_noted k.notes key ≡ true → (m : ℕ) (notes : List Note) → MayLook b w key m notes → ⊥
    not_unnoted key h m notes may =
        let same = (running_state s _ notes _ w (here m (Running w notes) refl may.running)).1 in
        noted_some plan.base k.notes key h (λ j x e. may.unnoted j x (ap (λ (y : List Note). slice_get y j) (sym same) ∙ e))

    pub may_look : (v : ℕ) → s ≡ states.Running v → (key : Key) → is_noted k.notes key ≡ false → MayLook b w key n (notes_by plan.base k.notes)
    may_look v is key h = record {
      running = is_running _ v w _ (state_with (states.Running v) is) held ∙ ap (λ (ns : List Note). Running w ns) noted_held;
      unnoted = unnoted_each plan.base k.notes key h;
    }

    pub runs : (v : ℕ) → s ≡ states.Running v → MayPublish b w n (notes_at b n)
    runs v is = inl (is_running _ v w _ (state_with (states.Running v) is) held)

    pub is_under_way : (v : ℕ) → s ≡ states.Placing v → (last : Option Contents) → k.contents ≡ last → (row_at b n).state ≡ Placing w (notes_at b n) last
    is_under_way v is last e = is_placing _ v w _ k.contents (state_with (states.Placing v) is) held ∙ ap (λ (o : Option Contents). Placing w (notes_at b n) o) e

    pub not_published : ((v : ℕ) → s ≡ states.Running v → ⊥) → ((v : ℕ) → s ≡ states.Placing v → ⊥) → (m : ℕ) (notes : List Note) → MayPublish b w m notes → ⊥
    not_published not neither m notes (inl r) = not w (running_state s _ notes _ w (here m (Running w notes) refl r)).0
    not_published not neither m notes (inr r) = neither w (placing_state s _ notes _ r.0 w (here m (Placing w notes r.0) refl r.1)).0

    pub not_placing : ((v : ℕ) → s ≡ states.Placing v → ⊥) → (m : ℕ) (notes : List Note) (last : Option Contents) → (row_at b m).state ≢ Placing w notes last
    not_placing not m notes last e = not w (placing_state s _ notes _ last w (here m (Placing w notes last) refl e)).0

    -- a line that is being published has a version
    pub no_version : k.contents ≡ None → (m : ℕ) (notes : List Note) (last : Option Contents) → (row_at b m).state ≢ Placing w notes last
    no_version none m notes last e =
        let p = placing_state s _ notes _ last w (here m (Placing w notes last) refl e) in
        at.under_way w (notes_at b n) None (is_under_way w p.0 None none)
