-- A worker takes a line.
use Rattle.std.proofs.Common.{◌≡◌, ℕ, ◌+◌, ◌-◌, ◌<◌, ◌≤◌, ◌^◌, List, [], Option, Some, None, length, set, get_or, slice_get, refl, sym, ap, subst, ◌∙◌, inl, inr, arith, length-set}
use Rattle.std.proofs.lemmas.List.{set-get_or}
use Rattle.read_set.specs.Plans.{Planned}
use Rattle.attempts.specs.Moves.{no_row, taken}
use Rattle.attempts.specs.States.{States, state_at, next_at}
use Rattle.attempts.specs.declared.state.LineState.TheVariants as states
use Rattle.attempts.specs.declared.table.AttemptRow as attempt
use Rattle.version_store.specs.Entries as store
use Rattle.board_steps.specs.Board.{Row, Board, IsLine, IsCommitted, row_at, holder}
use Rattle.board_steps.specs.Board.State.{Running, Placing}
use Rattle.board_steps.specs.Steps.{MayTake, TakeStep, put_row}
use Rattle.board_steps.specs.Steps as steps
use Rattle.board_steps.specs.Steps.Reply.{Taken, Attempts}
use Rattle.board_steps.proofs.Steps.{take_step}
use Rattle.board_lines.specs.Parts.{Kept, Parts, no_notes, row_with, row_by, state_of, board_of, HandsHold, IsKept}
use Rattle.board_lines.specs.Notes.{notes_by}
use Rattle.board_lines.proofs.Boards.{Puts, is_there, row_there, board_is, row_new, row_old, kept_put}
use Rattle.board_lines.proofs.Hands.{hand_put}
use Rattle.board_lines.proofs.Moves.{state_is, next_is, puts_of, board_eq, free}

module _ (plan : Planned) (a : Parts) (kept : IsKept plan a) (n w : ℕ) (waits : state_at a.states n ≡ Some states.Waiting) (hand : slice_get a.hands w ≡ Some None) where
  abbrev b : Board
  b = board_of plan.base a

  abbrev p : ℕ
  p = n - a.states.first

  contents : (a.states.first ≤ n) × (p < length a.states.rows) × ((get_or a.states.rows p no_row).state ≡ states.Waiting)
  contents = state_is a.states n states.Waiting waits

  pub there : IsLine (board_of plan.base a) n
  there = is_there plan.base a n contents.0 (omega (arith, contents.1, kept.all_states))

  at : row_at (board_of plan.base a) n ≡ row_by plan.base a p
  at = row_there plan.base a n there

  pub may_take : MayTake (board_of plan.base a) w n
  may_take = record {
    within = there;
    free = free a.hands (board_of plan.base a) kept.hand refl w hand;
    waiting =
        ap (λ (x : Row). x.state) at
        ∙ ap (λ s. state_of s (notes_by plan.base (get_or a.rows p no_notes).notes) (get_or a.rows p no_notes).contents) contents.2;
  }

  -- the number of the next attempt
  pub next_there : (x : ℕ) → next_at a.states n ≡ Some x → (row_at (board_of plan.base a) n).next ≡ x
  next_there x h = ap (λ (y : Row). y.next) at ∙ next_is a.states n x h

  pub attempts_returns : next_at a.states n ≡ Some (2 ^ 32) → TakeStep (board_of plan.base a) w n (Attempts n) (board_of plan.base a)
  attempts_returns h = (may_take, omega (arith, next_there (2 ^ 32) h), refl, refl)

  module _ (q : Parts) (k : Kept) (states_is : q.states ≡ taken a.states n w) (store_is : q.store ≡ a.store)
      (rows_is : q.rows ≡ set a.rows p k) (k_is : k ≡ record { notes = []; contents = (get_or a.rows p no_notes).contents; course = (get_or a.rows p no_notes).course; changed = (get_or a.rows p no_notes).changed })
      (hands_is : q.hands ≡ set a.hands w (Some n)) (within : w < length a.hands) (clock_is : q.clock ≡ a.clock) (latest_is : q.latest ≡ a.latest) where
    s : attempt.AttemptRow
    s = record { state = states.Running w; next = (get_or a.states.rows p no_row).next + 1 }

    r : Row
    r = row_with plan.base s k (get_or a.store.lines p store.no_entries)

    puts : Puts plan.base a q n r
    unfolding s r
    puts = puts_of plan.base a q n s k (get_or a.store.lines p store.no_entries) kept.all_states kept.all_entries (omega (arith, contents.1, kept.all_states))
        (ap (λ (x : States). x.first) states_is)
        (ap (λ (x : States). x.rows) states_is)
        (ap (λ (x : store.Store). x.first) store_is)
        (ap (λ (x : store.Store). x.lines) store_is ∙ sym (set-get_or a.store.lines p store.no_entries))
        rows_is

    r_is : r ≡ record (row_at (board_of plan.base a) n) { state = Running w []; next = (row_at (board_of plan.base a) n).next + 1 }
    unfolding s r
    r_is =
        ap (λ (x : Kept). row_with plan.base s x (get_or a.store.lines p store.no_entries)) k_is
        ∙ ap (λ (x : Row). record x { state = Running w []; next = x.next + 1 }) (sym at)

    pub take_board : board_of plan.base q ≡ steps.taken (board_of plan.base a) w n
    take_board = board_eq _ _
        (ap (λ (x : Board). x.first) (board_is plan.base a q n r there puts))
        (ap (λ (x : Board). x.rows) (board_is plan.base a q n r there puts) ∙ ap (λ (x : Row). (put_row (board_of plan.base a) n x).rows) r_is)
        (ap (λ (x : List (Option ℕ)). length x) hands_is ∙ length-set a.hands w (Some n))
        clock_is
        (ap (λ (x : States). x.counts.commits) states_is)
        (ap (λ (x : States). x.counts.takes) states_is)
        (ap (λ (x : States). x.counts.failed) states_is)
        (ap (λ (x : States). x.counts.stops) states_is)

    pub take_returns : (number : ℕ) → number ≡ (row_at (board_of plan.base a) n).next → number < 2 ^ 32 → TakeStep (board_of plan.base a) w n (Taken number) (board_of plan.base q)
    take_returns number is few = (may_take, omega (arith, is, few), is, take_board)

    pub take_kept : (row_at (board_of plan.base a) n).next < 2 ^ 32 → IsKept plan q
    unfolding s r
    take_kept few = kept_put plan a q n r kept there puts
        (take_step plan (board_of plan.base a) w n (Taken (row_at (board_of plan.base a) n).next) (board_of plan.base q) kept.reached (may_take, few, refl, take_board))
        (subst (λ x. HandsHold x (row_at (board_of plan.base q))) (sym hands_is)
        (hand_put a.hands (row_at (board_of plan.base a)) (row_at (board_of plan.base q)) n r (row_new plan.base a q n r there puts) (row_old plan.base a q n r there puts) kept.hand
        w (Some n) within (inr (ap holder may_take.waiting, hand)) (inl (refl, ap (λ (x : Row). holder x.state) r_is))))
        (λ h. subst IsCommitted may_take.waiting h)
        (ap (λ (x : States). x.counts.commits) states_is)
        latest_is
        (λ v notes last h. (let z : Running w (notes_by plan.base k.notes) ≡ Placing v notes last = h in absurd (cc)))
