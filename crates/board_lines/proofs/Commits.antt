-- A line commits.
use Rattle.std.proofs.Common.{◌≡◌, ◌≢◌, ℕ, ◌+◌, ◌-◌, ◌<◌, ◌≤◌, max, List, [], Option, Some, length, set, get_or, refl, sym, ap, subst, ◌∙◌, inl, inr, arith}
use Rattle.std.proofs.lemmas.Bool.{cases_order}
use Rattle.std.proofs.lemmas.List.{set-get_or}
use Rattle.sip_answer.specs.declared.answer.Answer.{Answer}
use Rattle.read_set.specs.Plans.{Planned}
use Rattle.read_set.specs.Settling.{Contents}
use Rattle.read_set.specs.declared.notes.Note.{Note}
use Rattle.attempts.specs.Moves.{no_row, committed}
use Rattle.attempts.specs.States.{States, state_at}
use Rattle.attempts.specs.declared.state.LineState.{LineState}
use Rattle.attempts.specs.declared.state.LineState.TheVariants as states
use Rattle.attempts.specs.declared.table.AttemptRow as attempt
use Rattle.version_store.specs.Entries as store
use Rattle.board_steps.specs.Board.{Row, Board, IsLine, IsCommitted, row_at, holder}
use Rattle.board_steps.specs.Board.State.{Placing, Done, Committed}
use Rattle.board_steps.specs.Steps.{MayCommit, CommitStep, put_row, with_state}
use Rattle.board_steps.specs.Steps.Reply.{Commits, Later, Idle}
use Rattle.board_steps.proofs.Steps.{commit_step}
use Rattle.board_lines.specs.Notes.{notes_by}
use Rattle.board_lines.specs.Parts.{Kept, Parts, no_notes, row_with, row_by, state_of, answer_by, board_of, HandsHold, IsKept}
use Rattle.board_lines.proofs.Boards.{Puts, is_there, row_there, board_is, row_new, row_old, kept_commit}
use Rattle.board_lines.proofs.Hands.{hand_same}
use Rattle.board_lines.proofs.Moves.{state_is, puts_of, board_eq}

-- a line that may commit is the next one
may_commit_next : (plan : Planned) (a : Parts) (kept : IsKept plan a) (n : ℕ) (notes : List Note) (answer : Option Answer) (t : ℕ)
    → plan.first ≤ n → MayCommit (board_of plan.base a) n notes answer t → n ≡ plan.first + a.states.counts.commits
may_commit_next plan a kept n notes answer t from may = elim (cases_order n (plan.first + a.states.counts.commits)) [
  | inl e ↦ e
  | inr d ↦ elim d [
    | inl lt ↦ absurd (subst IsCommitted may.done (kept.reached.rows.first n from lt))
    | inr lt ↦ absurd (omega (arith, kept.reached.rows.only (plan.first + a.states.counts.commits) (may.below (plan.first + a.states.counts.commits) (omega (arith, kept.reached.first)) lt)))
  ]
]

-- the stamp of a line that is done
done_stamp : (s : LineState) (notes notes' : List Note) (contents : Option Contents) (answer' : Option Answer) (t : ℕ) → state_of s notes contents ≡ Done notes' answer' (Some t) → s ≡ states.Done (Some t)
done_stamp states.Waiting notes notes' contents answer' t h = absurd (cc)
done_stamp (states.Running w) notes notes' contents answer' t h = absurd (cc)
done_stamp (states.Placing w) notes notes' contents answer' t h = absurd (cc)
done_stamp (states.Done stamp) notes notes' contents answer' t h = let e : stamp ≡ Some t = cc in ap states.Done e
done_stamp (states.Checking w u i) notes notes' contents answer' t h = absurd (cc)
done_stamp states.Committed notes notes' contents answer' t h = absurd (cc)

committed_state : (s : LineState) (notes : List Note) (contents : Option Contents) → IsCommitted (state_of s notes contents) → s ≡ states.Committed
committed_state states.Waiting notes contents h = absurd h
committed_state (states.Running w) notes contents h = absurd h
committed_state (states.Placing w) notes contents h = absurd h
committed_state (states.Done stamp) notes contents h = absurd h
committed_state (states.Checking w u i) notes contents h = absurd h
committed_state states.Committed notes contents h = refl

module _ (plan : Planned) (a : Parts) (kept : IsKept plan a) (n : ℕ) (state : LineState) (is : state_at a.states n ≡ Some state) where
  contents : (a.states.first ≤ n) × (n - a.states.first < length a.states.rows) × ((get_or a.states.rows (n - a.states.first) no_row).state ≡ state)
  contents = state_is a.states n state is

  pub line_there : IsLine (board_of plan.base a) n
  line_there = is_there plan.base a n contents.0 (omega (arith, contents.1, kept.all_states))

  at : row_at (board_of plan.base a) n ≡ row_by plan.base a (n - a.states.first)
  at = row_there plan.base a n line_there

  -- its state on the board
  pub state_there : (row_at (board_of plan.base a) n).state
      ≡ state_of state (notes_by plan.base (get_or a.rows (n - a.states.first) no_notes).notes) (get_or a.rows (n - a.states.first) no_notes).contents
  state_there =
      ap (λ (x : Row). x.state) at
      ∙ ap (λ s. state_of s (notes_by plan.base (get_or a.rows (n - a.states.first) no_notes).notes) (get_or a.rows (n - a.states.first) no_notes).contents) contents.2

  bar : (state ≡ states.Committed → ⊥) → IsCommitted (row_at (board_of plan.base a) n).state → ⊥
  bar not h = not (committed_state state (notes_by plan.base (get_or a.rows (n - a.states.first) no_notes).notes) (get_or a.rows (n - a.states.first) no_notes).contents (subst IsCommitted state_there h))

  from : plan.first ≤ n
  from = omega (arith, contents.0, kept.reached.first)

  pub idle_committed : state ≡ states.Committed → CommitStep (board_of plan.base a) n Idle (board_of plan.base a)
  idle_committed e = (inr (subst IsCommitted (sym (state_there ∙ ap (λ s. state_of s (notes_by plan.base (get_or a.rows (n - a.states.first) no_notes).notes) (get_or a.rows (n - a.states.first) no_notes).contents) e)) tt), refl)

  -- it isn't the next line
  pub later_line : (state ≡ states.Committed → ⊥) → n - a.states.first ≢ a.states.counts.commits → CommitStep (board_of plan.base a) n Later (board_of plan.base a)
  later_line not ne =
      (line_there, bar not, λ notes answer t may. ne (let e = may_commit_next plan a kept n notes answer t from may in omega (arith, e, contents.0, kept.reached.first)), refl)

  -- it isn't done with a stamp
  pub later_state : (state ≡ states.Committed → ⊥) → ((t : ℕ) → state ≡ states.Done (Some t) → ⊥) → CommitStep (board_of plan.base a) n Later (board_of plan.base a)
  later_state not other = (line_there, bar not, λ notes answer t may. other t (done_stamp state (notes_by plan.base (get_or a.rows (n - a.states.first) no_notes).notes) notes (get_or a.rows (n - a.states.first) no_notes).contents answer t (sym state_there ∙ may.done)), refl)

  same_stamp : (t u : ℕ) → states.Done (Some t) ≡ states.Done (Some u) → t ≡ u
  same_stamp t u e = cc

  -- a committed line has changed since its stamp
  pub later_change : (t : ℕ) → state ≡ states.Done (Some t) → t < a.latest → CommitStep (board_of plan.base a) n Later (board_of plan.base a)
  later_change t e lt = (
    line_there,
    bar (λ h. (let z : states.Done (Some t) ≡ states.Committed = sym e ∙ h in cc)),
    λ notes answer u may. (let same : u ≡ t = same_stamp u t (sym (done_stamp state (notes_by plan.base (get_or a.rows (n - a.states.first) no_notes).notes) notes (get_or a.rows (n - a.states.first) no_notes).contents answer u (sym state_there ∙ may.done)) ∙ e) in
        let next = may_commit_next plan a kept n notes answer u from may in
        elim kept.attained [
          | inl z ↦ omega (arith, z, lt)
          | inr x ↦ omega (arith, may.unchanged x.0 (omega (arith, x.1, next)), x.2, same, lt)
        ]),
    refl,
  )

  module _ (t : ℕ) (done : state ≡ states.Done (Some t)) (least : n - a.states.first ≡ a.states.counts.commits) (still : a.latest ≤ t) where
    next : n ≡ plan.first + a.states.counts.commits
    next = omega (arith, least, contents.0, kept.reached.first)

    pub may_commit : MayCommit (board_of plan.base a) n (notes_by plan.base (get_or a.rows (n - a.states.first) no_notes).notes) (answer_by (get_or a.rows (n - a.states.first) no_notes).contents) t
    may_commit = record {
      below = λ m le lt. kept.reached.rows.first m (omega (arith, le, kept.reached.first)) (omega (arith, lt, next));
      done = state_there ∙ ap (λ s. state_of s (notes_by plan.base (get_or a.rows (n - a.states.first) no_notes).notes) (get_or a.rows (n - a.states.first) no_notes).contents) done;
      unchanged = λ m lt. (let h = kept.below m (omega (arith, lt, next)) in omega (arith, h, still));
    }

    -- its notes are removed
    module _ (q : Parts) (k : Kept) (states_is : q.states ≡ committed a.states n) (store_is : q.store ≡ a.store) (rows_is : q.rows ≡ set a.rows (n - a.states.first) k)
        (k_is : k ≡ record { notes = []; contents = (get_or a.rows (n - a.states.first) no_notes).contents; course = (get_or a.rows (n - a.states.first) no_notes).course; changed = (get_or a.rows (n - a.states.first) no_notes).changed })
        (hands_is : q.hands ≡ a.hands) (clock_is : q.clock ≡ a.clock)
        (latest_is : q.latest ≡ max a.latest (get_or a.rows (n - a.states.first) no_notes).changed) where
      s : attempt.AttemptRow
      s = record { state = states.Committed; next = (get_or a.states.rows (n - a.states.first) no_row).next }

      r : Row
      r = row_with plan.base s k (get_or a.store.lines (n - a.states.first) store.no_entries)

      puts : Puts plan.base a q n r
      unfolding s r
      puts = puts_of plan.base a q n s k (get_or a.store.lines (n - a.states.first) store.no_entries) kept.all_states kept.all_entries (omega (arith, contents.1, kept.all_states))
          (ap (λ (x : States). x.first) states_is)
          (ap (λ (x : States). x.rows) states_is)
          (ap (λ (x : store.Store). x.first) store_is)
          (ap (λ (x : store.Store). x.lines) store_is ∙ sym (set-get_or a.store.lines (n - a.states.first) store.no_entries))
          rows_is

      r_is : r ≡ with_state (row_at (board_of plan.base a) n) (Committed (answer_by (get_or a.rows (n - a.states.first) no_notes).contents))
      unfolding s r
      r_is =
          ap (λ (x : Kept). row_with plan.base s x (get_or a.store.lines (n - a.states.first) store.no_entries)) k_is
          ∙ ap (λ (x : Row). with_state x (Committed (answer_by (get_or a.rows (n - a.states.first) no_notes).contents))) (sym at)

      pub commit_board : board_of plan.base q
          ≡ record (put_row (board_of plan.base a) n (with_state (row_at (board_of plan.base a) n) (Committed (answer_by (get_or a.rows (n - a.states.first) no_notes).contents)))) { committed = a.states.counts.commits + 1 }
      commit_board = board_eq _ _
          (ap (λ (x : Board). x.first) (board_is plan.base a q n r line_there puts))
          (ap (λ (x : Board). x.rows) (board_is plan.base a q n r line_there puts) ∙ ap (λ (x : Row). (put_row (board_of plan.base a) n x).rows) r_is)
          (ap (λ (x : List (Option ℕ)). length x) hands_is)
          clock_is
          (ap (λ (x : States). x.counts.commits) states_is)
          (ap (λ (x : States). x.counts.takes) states_is)
          (ap (λ (x : States). x.counts.failed) states_is)
          (ap (λ (x : States). x.counts.stops) states_is)

      pub commit_returns : CommitStep (board_of plan.base a) n Commits (board_of plan.base q)
      commit_returns = ((notes_by plan.base (get_or a.rows (n - a.states.first) no_notes).notes), (answer_by (get_or a.rows (n - a.states.first) no_notes).contents), t, may_commit, commit_board)

      pub commit_kept : IsKept plan q
      unfolding s r
      commit_kept = kept_commit plan a q n r kept line_there puts
          (commit_step plan (board_of plan.base a) n Commits (board_of plan.base q) kept.reached commit_returns)
          (subst (λ x. HandsHold x (row_at (board_of plan.base q))) (sym hands_is)
          (hand_same a.hands (row_at (board_of plan.base a)) (row_at (board_of plan.base q)) n r (row_new plan.base a q n r line_there puts) (row_old plan.base a q n r line_there puts) kept.hand
          (sym (ap holder may_commit.done))))
          next
          (ap (λ (x : States). x.counts.commits) states_is)
          (ap (λ (x : Kept). x.changed) k_is ∙ ap (λ (x : Row). x.changed) (sym at))
          (latest_is ∙ ap (λ (x : Kept). max a.latest x.changed) (sym k_is))
          (λ v notes last h. (let z : Committed (answer_by k.contents) ≡ Placing v notes last = h in absurd (cc)))
