-- One line's parts are set, and what board that is.
use Rattle.std.proofs.Common.{◌≡◌, ℕ, ◌-◌, ◌<◌, ◌≤◌, List, Option, Some, None, length, set, get_or, slice_get, refl, sym, ap, ◌∙◌, inl, inr, arith, length-set, get_or-set_same, get_or-set_other}
use Rattle.std.specs.Prelude.{option_map}
use Rattle.std.proofs.lemmas.Bool.{cases_lt, lt-ltb, le-ltb}
use Rattle.std.proofs.lemmas.Option.{none-some, same_Some, slice_get_within, get_or_from_slice_get, slice_get-get_or}
use Rattle.circ_records.specs.Records.{Entries}
use Rattle.read_set.specs.Settling.{Contents}
use Rattle.read_set.specs.declared.notes.Note.{Note}
use Rattle.attempts.specs.Moves.{no_row}
use Rattle.attempts.specs.States.{States, state_at, next_at}
use Rattle.attempts.specs.declared.state.LineState.{LineState}
use Rattle.attempts.specs.declared.state.LineState.TheVariants as states
use Rattle.attempts.specs.declared.table.AttemptRow as attempt
use Rattle.version_store.specs.Entries as store
use Rattle.board_steps.specs.Board.{Board, row_at}
use Rattle.board_steps.specs.Board.State.{Waiting, Running, Placing}
use Rattle.board_steps.specs.Steps.{IsFree}
use Rattle.board_lines.specs.Parts.{Kept, Parts, no_notes, row_with, state_of, HandsHold}
use Rattle.board_lines.proofs.Boards.{Puts}

-- ---- the state of a line, and whether it is there
state_before : (t : States) (n : ℕ) → n < t.first → state_at t n ≡ None
state_before t n l = rw (lt-ltb n t.first l) refl

pub state_from : (t : States) (n : ℕ) → t.first ≤ n → state_at t n ≡ option_map (λ (r : attempt.AttemptRow). r.state) (slice_get t.rows (n - t.first))
state_from t n l = rw (le-ltb n t.first l) refl

state_read : (rows : List attempt.AttemptRow) (p : ℕ) (o : Option attempt.AttemptRow) (s : LineState) → slice_get rows p ≡ o → option_map (λ (r : attempt.AttemptRow). r.state) o ≡ Some s → (p < length rows) × ((get_or rows p no_row).state ≡ s)
state_read rows p None s e h = absurd (none-some s h)
state_read rows p (Some r) s e h =
    (slice_get_within rows p r e, ap (λ (x : attempt.AttemptRow). x.state) (get_or_from_slice_get rows p r no_row e) ∙ same_Some r.state s h)

pub state_is : (t : States) (n : ℕ) (s : LineState) → state_at t n ≡ Some s → (t.first ≤ n) × (n - t.first < length t.rows) × ((get_or t.rows (n - t.first) no_row).state ≡ s)
state_is t n s h = elim (cases_lt n t.first) [
  | inl before ↦ absurd (none-some s (sym (state_before t n before) ∙ h))
  | inr from ↦ (let r = state_read t.rows (n - t.first) _ s refl (sym (state_from t n from) ∙ h) in (from, r.0, r.1))
]

-- the next attempt of a line
next_before : (t : States) (n : ℕ) → n < t.first → next_at t n ≡ None
next_before t n l = rw (lt-ltb n t.first l) refl

pub next_from : (t : States) (n : ℕ) → t.first ≤ n → next_at t n ≡ option_map (λ (r : attempt.AttemptRow). r.next) (slice_get t.rows (n - t.first))
next_from t n l = rw (le-ltb n t.first l) refl

next_read : (rows : List attempt.AttemptRow) (p : ℕ) (o : Option attempt.AttemptRow) (x : ℕ) → slice_get rows p ≡ o → option_map (λ (r : attempt.AttemptRow). r.next) o ≡ Some x → (get_or rows p no_row).next ≡ x
next_read rows p None x e h = absurd (none-some x h)
next_read rows p (Some r) x e h = ap (λ (y : attempt.AttemptRow). y.next) (get_or_from_slice_get rows p r no_row e) ∙ same_Some r.next x h

pub next_is : (t : States) (n x : ℕ) → next_at t n ≡ Some x → (get_or t.rows (n - t.first) no_row).next ≡ x
next_is t n x h = elim (cases_lt n t.first) [
  | inl before ↦ absurd (none-some x (sym (next_before t n before) ∙ h))
  | inr from ↦ next_read t.rows (n - t.first) _ x refl (sym (next_from t n from) ∙ h)
]

some_none : {A B : Type 0} (f : A → B) (x : A) → option_map f (Some x) ≡ None → ⊥
some_none f x h = cc

pub state_none : (t : States) (n : ℕ) → state_at t n ≡ None → t.first ≤ n → n - t.first < length t.rows → ⊥
state_none t n h from within =
    some_none (λ (r : attempt.AttemptRow). r.state) (get_or t.rows (n - t.first) no_row)
    (ap (option_map (λ (r : attempt.AttemptRow). r.state)) (sym (slice_get-get_or t.rows (n - t.first) no_row within)) ∙ sym (state_from t n from) ∙ h)

-- a line waits on the board just if its state is that it waits
pub state_waits : (s : LineState) (notes : List Note) (contents : Option Contents) → state_of s notes contents ≡ Waiting → s ≡ states.Waiting
state_waits states.Waiting notes contents h = refl
state_waits (states.Running w) notes contents h = absurd (cc)
state_waits (states.Placing w) notes contents h = absurd (cc)
state_waits (states.Done t) notes contents h = absurd (cc)
state_waits (states.Checking w t i) notes contents h = absurd (cc)
state_waits states.Committed notes contents h = absurd (cc)

pub running_state : (s : LineState) (notes notes' : List Note) (contents : Option Contents) (w : ℕ) → state_of s notes contents ≡ Running w notes' → (s ≡ states.Running w) × (notes ≡ notes')
running_state states.Waiting notes notes' contents w h = absurd (cc)
running_state (states.Running v) notes notes' contents w h = (let e : v ≡ w = cc in ap states.Running e, cc)
running_state (states.Placing v) notes notes' contents w h = absurd (cc)
running_state (states.Done t) notes notes' contents w h = absurd (cc)
running_state (states.Checking v t i) notes notes' contents w h = absurd (cc)
running_state states.Committed notes notes' contents w h = absurd (cc)

pub placing_state : (s : LineState) (notes notes' : List Note) (contents last : Option Contents) (w : ℕ) → state_of s notes contents ≡ Placing w notes' last
    → (s ≡ states.Placing w) × (notes ≡ notes') × (contents ≡ last)
placing_state states.Waiting notes notes' contents last w h = absurd (cc)
placing_state (states.Running v) notes notes' contents last w h = absurd (cc)
placing_state (states.Placing v) notes notes' contents last w h = (let e : v ≡ w = cc in ap states.Placing e, cc, cc)
placing_state (states.Done t) notes notes' contents last w h = absurd (cc)
placing_state (states.Checking v t i) notes notes' contents last w h = absurd (cc)
placing_state states.Committed notes notes' contents last w h = absurd (cc)

-- ---- one line's parts are set
pub puts_of : (base : Entries) (a q : Parts) (n : ℕ) (s : attempt.AttemptRow) (k : Kept) (l : store.Line)
    → length a.states.rows ≡ length a.rows → length a.store.lines ≡ length a.rows → n - a.states.first < length a.rows
    → q.states.first ≡ a.states.first → q.states.rows ≡ set a.states.rows (n - a.states.first) s
    → q.store.first ≡ a.store.first → q.store.lines ≡ set a.store.lines (n - a.states.first) l
    → q.rows ≡ set a.rows (n - a.states.first) k
    → Puts base a q n (row_with base s k l)
puts_of base a q n s k l all_states all_entries within first states store_first lines rows =
    let p = n - a.states.first in
    record {
      first = first;
      store_first = store_first;
      rows = ap (λ (x : List Kept). length x) rows ∙ length-set a.rows p k;
      states = ap (λ (x : List attempt.AttemptRow). length x) states ∙ length-set a.states.rows p s;
      lines = ap (λ (x : List store.Line). length x) lines ∙ length-set a.store.lines p l;
      here =
          ap (λ (x : List attempt.AttemptRow). row_with base (get_or x p no_row) (get_or q.rows p no_notes) (get_or q.store.lines p store.no_entries)) states
          ∙ ap (λ (x : List Kept). row_with base (get_or (set a.states.rows p s) p no_row) (get_or x p no_notes) (get_or q.store.lines p store.no_entries)) rows
          ∙ ap (λ (x : List store.Line). row_with base (get_or (set a.states.rows p s) p no_row) (get_or (set a.rows p k) p no_notes) (get_or x p store.no_entries)) lines
          ∙ ap (λ (x : attempt.AttemptRow). row_with base x (get_or (set a.rows p k) p no_notes) (get_or (set a.store.lines p l) p store.no_entries)) (get_or-set_same a.states.rows p s no_row (omega (arith, within, all_states)))
          ∙ ap (λ (x : Kept). row_with base s x (get_or (set a.store.lines p l) p store.no_entries)) (get_or-set_same a.rows p k no_notes within)
          ∙ ap (λ (x : store.Line). row_with base s k x) (get_or-set_same a.store.lines p l store.no_entries (omega (arith, within, all_entries)));
      off = λ m ne.
          ap (λ (x : List attempt.AttemptRow). row_with base (get_or x m no_row) (get_or q.rows m no_notes) (get_or q.store.lines m store.no_entries)) states
          ∙ ap (λ (x : List Kept). row_with base (get_or (set a.states.rows p s) m no_row) (get_or x m no_notes) (get_or q.store.lines m store.no_entries)) rows
          ∙ ap (λ (x : List store.Line). row_with base (get_or (set a.states.rows p s) m no_row) (get_or (set a.rows p k) m no_notes) (get_or x m store.no_entries)) lines
          ∙ ap (λ (x : attempt.AttemptRow). row_with base x (get_or (set a.rows p k) m no_notes) (get_or (set a.store.lines p l) m store.no_entries)) (get_or-set_other a.states.rows p m s no_row ne)
          ∙ ap (λ (x : Kept). row_with base (get_or a.states.rows m no_row) x (get_or (set a.store.lines p l) m store.no_entries)) (get_or-set_other a.rows p m k no_notes ne)
          ∙ ap (λ (x : store.Line). row_with base (get_or a.states.rows m no_row) (get_or a.rows m no_notes) x) (get_or-set_other a.store.lines p m l store.no_entries ne);
      kept_off = λ m ne. ap (λ (x : List Kept). get_or x m no_notes) rows ∙ get_or-set_other a.rows p m k no_notes ne;
    }

-- boards with equal fields are one
pub board_eq : (b c : Board) → b.first ≡ c.first → b.rows ≡ c.rows → b.workers ≡ c.workers → b.clock ≡ c.clock → b.committed ≡ c.committed → b.takes ≡ c.takes → b.failed ≡ c.failed → b.stops ≡ c.stops → b ≡ c
board_eq b c e0 e1 e2 e3 e4 e5 e6 e7 =
    λ i. record { first = e0 i; rows = e1 i; workers = e2 i; clock = e3 i; committed = e4 i; takes = e5 i; failed = e6 i; stops = e7 i }

-- ---- workers
module _ (hands : List (Option ℕ)) (b : Board) (hold : HandsHold hands (row_at b)) (workers : b.workers ≡ length hands) (w : ℕ) where
  pub free : slice_get hands w ≡ Some None → IsFree b w
  free e = (
    omega (arith, slice_get_within hands w None e, workers),
    λ m h. (let two : ◌≡◌ {A = Option (Option ℕ)} (Some None) (Some (Some m)) = sym e ∙ (hold w m).1 h in cc),
  )

  pub no_worker : length hands ≤ w → IsFree b w → ⊥
  no_worker le f = omega (arith, le, f.0, workers)

  pub busy : (n : ℕ) → slice_get hands w ≡ Some (Some n) → IsFree b w → ⊥
  busy n e f = f.1 n ((hold w n).0 e)
