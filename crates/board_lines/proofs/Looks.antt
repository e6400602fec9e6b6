-- A worker's line looks at a key.
use Rattle.std.proofs.Common.{◌≡◌, ℕ, ◌-◌, ◌<◌, Bool, true, false, List, [], ◌∷◌, ◌++◌, Option, Some, None, length, set, get_or, slice_get, refl, sym, ap, ap₂, subst, ◌∙◌, inl, inr, length-set}
use Rattle.std.specs.Prelude.{option_map, IsSomeAnd}
use Rattle.std.proofs.lemmas.List.{set-get_or}
use Rattle.std.proofs.lemmas.Option.{slice_get_within}
use Rattle.circ_records.specs.declared.key.Key.{Key}
use Rattle.read_set.specs.Plans.{Planned}
use Rattle.read_set.specs.declared.notes.Name.{Name}
use Rattle.read_set.specs.declared.notes.Note.{Note}
use Rattle.attempts.specs.Moves.{no_row}
use Rattle.attempts.specs.Moves as moves
use Rattle.attempts.specs.States.{States, state_at, is_live}
use Rattle.attempts.specs.declared.state.LineState.{LineState}
use Rattle.attempts.specs.declared.state.LineState.TheVariants as states
use Rattle.attempts.specs.declared.table.AttemptRow as attempt
use Rattle.version_store.specs.Entries as store
use Rattle.version_store.specs.Entries.{visible}
use Rattle.version_store.specs.declared.entry.Found.TheVariants.{Named}
use Rattle.version_store.specs.declared.table.Place.{Place}
use Rattle.board_steps.specs.Board.{Row, Board, IsLine, IsCommitted, row_at, holder, live_of, value_at, found}
use Rattle.board_steps.specs.Board.State.{Waiting, Running, Placing}
use Rattle.board_steps.specs.Steps.{MayLook, LookStep, put_row, with_state}
use Rattle.board_steps.specs.Steps as steps
use Rattle.board_steps.specs.Steps.Call.{Look}
use Rattle.board_steps.specs.Steps.Reply.{Seen}
use Rattle.board_steps.proofs.Calls.{stopped_reached}
use Rattle.board_steps.proofs.Steps.{look_step}
use Rattle.board_steps.specs.Reached.{Reached}
use Rattle.board_lines.specs.Notes.{Noted, found_by, is_noted, notes_by, note_with, contents_at}
use Rattle.board_lines.specs.Parts.{Kept, Parts, no_notes, row_with, row_by, row_shown, state_of, board_of, kept_at, HandsHold, IsKept}
use Rattle.board_lines.specs.Replies.{Grows}
use Rattle.board_lines.specs.Sights.{IsNameOf}
use Rattle.board_lines.specs.declared.lines.Lines.TheInside.{Inside}
use Rattle.board_lines.specs.declared.row.LineRow.{LineRow}
use Rattle.board_lines.proofs.Boards.{Puts, board_shown, parts_of, place_of, row_there, board_is, row_new, row_old, kept_put}
use Rattle.board_lines.proofs.Hands.{hand_put, hand_same}
use Rattle.board_lines.proofs.Moves.{running_state, puts_of, board_eq}
use Rattle.board_lines.proofs.Rows.{held_there, live_stands, state_shown, state_stands}
use Rattle.board_lines.proofs.Sights.{named_seen, noted_some, notes_push, note_is}

module _ (plan : Planned) (a : Parts) (kept : IsKept plan a) (w n : ℕ) (k : Key) (notes : List Note) (may : MayLook (board_of plan.base a) w k n notes) where
  pub look_line : IsLine (board_of plan.base a) n
  look_line = held_there (board_of plan.base a) n w (ap holder may.running)

  look_place : n - a.states.first < length a.rows
  look_place = place_of plan.base a n look_line

  at : row_at (board_of plan.base a) n ≡ row_by plan.base a (n - a.states.first)
  at = row_there plan.base a n look_line

  pub look_state : (state_at a.states n ≡ Some (states.Running w)) × (notes_by plan.base (get_or a.rows (n - a.states.first) no_notes).notes ≡ notes)
  look_state =
      let r = running_state (get_or a.states.rows (n - a.states.first) no_row).state (notes_by plan.base (get_or a.rows (n - a.states.first) no_notes).notes) notes (get_or a.rows (n - a.states.first) no_notes).contents w
      (sym (state_shown plan a kept n look_line) ∙ may.running) in
      (state_stands plan a kept n look_line ∙ ap (λ x. Some x) r.0, r.1)

  pub look_unnoted : (b : Bool) → is_noted (get_or a.rows (n - a.states.first) no_notes).notes k ≡ b → b ≡ false
  look_unnoted true h = absurd (noted_some plan.base (get_or a.rows (n - a.states.first) no_notes).notes k h
      (λ j x e. may.unnoted j x (ap (λ (y : List Note). slice_get y j) (sym look_state.1) ∙ e)))
  look_unnoted false h = refl

  pub look_within : w < length a.hands
  look_within = slice_get_within a.hands w (Some n) ((kept.hand w n).1 (ap holder may.running))

  -- the attempt ends
  module _ (q : Parts) (states_is : q.states ≡ moves.stopped a.states n) (store_is : q.store ≡ a.store) (rows_is : q.rows ≡ a.rows)
      (hands_is : q.hands ≡ set a.hands w None) (clock_is : q.clock ≡ a.clock) (latest_is : q.latest ≡ a.latest) where
    s : attempt.AttemptRow
    s = record { state = states.Waiting; next = (get_or a.states.rows (n - a.states.first) no_row).next }

    r : Row
    r = row_with plan.base s (get_or a.rows (n - a.states.first) no_notes) (get_or a.store.lines (n - a.states.first) store.no_entries)

    puts : Puts plan.base a q n r
    unfolding s r
    puts = puts_of plan.base a q n s (get_or a.rows (n - a.states.first) no_notes) (get_or a.store.lines (n - a.states.first) store.no_entries) kept.all_states kept.all_entries look_place
        (ap (λ (x : States). x.first) states_is)
        (ap (λ (x : States). x.rows) states_is)
        (ap (λ (x : store.Store). x.first) store_is)
        (ap (λ (x : store.Store). x.lines) store_is ∙ sym (set-get_or a.store.lines (n - a.states.first) store.no_entries))
        (rows_is ∙ sym (set-get_or a.rows (n - a.states.first) no_notes))

    r_is : r ≡ with_state (row_at (board_of plan.base a) n) Waiting
    unfolding s r
    r_is = ap (λ (x : Row). with_state x Waiting) (sym at)

    pub stop_board : board_of plan.base q ≡ steps.stopped (board_of plan.base a) n
    stop_board = board_eq _ _
        (ap (λ (x : Board). x.first) (board_is plan.base a q n r look_line puts))
        (ap (λ (x : Board). x.rows) (board_is plan.base a q n r look_line puts) ∙ ap (λ (x : Row). (put_row (board_of plan.base a) n x).rows) r_is)
        (ap (λ (x : List (Option ℕ)). length x) hands_is ∙ length-set a.hands w None)
        clock_is
        (ap (λ (x : States). x.counts.commits) states_is)
        (ap (λ (x : States). x.counts.takes) states_is)
        (ap (λ (x : States). x.counts.failed) states_is)
        (ap (λ (x : States). x.counts.stops) states_is)

    pub stop_kept : IsKept plan q
    unfolding s r
    stop_kept = kept_put plan a q n r kept look_line puts
        (subst (λ (x : Board). Reached plan x) (sym stop_board) (stopped_reached plan (board_of plan.base a) w k n notes kept.reached may))
        (subst (λ x. HandsHold x (row_at (board_of plan.base q))) (sym hands_is)
        (hand_put a.hands (row_at (board_of plan.base a)) (row_at (board_of plan.base q)) n r (row_new plan.base a q n r look_line puts) (row_old plan.base a q n r look_line puts) kept.hand
        w None look_within (inl (ap holder may.running)) (inr (refl, refl))))
        (λ h. subst IsCommitted may.running h)
        (ap (λ (x : States). x.counts.commits) states_is)
        latest_is
        (λ v ns last h. (let z : Waiting ≡ Placing v ns last = h in absurd (cc)))

  -- the key is noted under its name
  module _ {J : Type 0} (name : Name) (place : Option (Place J)) (found_is : found (row_at (board_of plan.base a)) n k ≡ Named name)
      (value_is : found_by plan.base k (option_map contents_at place) ≡ value_at plan (row_at (board_of plan.base a)) n k)
      (q : Parts) (x : Kept) (states_is : q.states ≡ a.states) (store_is : q.store ≡ a.store) (rows_is : q.rows ≡ set a.rows (n - a.states.first) x)
      (x_is : x ≡ record { notes = (get_or a.rows (n - a.states.first) no_notes).notes ++ note_with k name place ∷ []; contents = (get_or a.rows (n - a.states.first) no_notes).contents; course = (get_or a.rows (n - a.states.first) no_notes).course; changed = (get_or a.rows (n - a.states.first) no_notes).changed })
      (hands_is : q.hands ≡ a.hands) (clock_is : q.clock ≡ a.clock) (latest_is : q.latest ≡ a.latest) where
    l : Row
    l = row_with plan.base (get_or a.states.rows (n - a.states.first) no_row) x (get_or a.store.lines (n - a.states.first) store.no_entries)

    seen_puts : Puts plan.base a q n l
    unfolding l
    seen_puts = puts_of plan.base a q n (get_or a.states.rows (n - a.states.first) no_row) x (get_or a.store.lines (n - a.states.first) store.no_entries) kept.all_states kept.all_entries look_place
        (ap (λ (y : States). y.first) states_is)
        (ap (λ (y : States). y.rows) states_is ∙ sym (set-get_or a.states.rows (n - a.states.first) no_row))
        (ap (λ (y : store.Store). y.first) store_is)
        (ap (λ (y : store.Store). y.lines) store_is ∙ sym (set-get_or a.store.lines (n - a.states.first) store.no_entries))
        rows_is

    more : List Note
    more = notes ++ record { key = k; name = name; found = value_at plan (row_at (board_of plan.base a)) n k } ∷ []

    more_is : notes_by plan.base ((get_or a.rows (n - a.states.first) no_notes).notes ++ note_with k name place ∷ []) ≡ more
    unfolding more
    more_is =
        notes_push plan.base (get_or a.rows (n - a.states.first) no_notes).notes (note_with k name place)
        ∙ ap₂ (λ (y : List Note) (z : Note). y ++ z ∷ []) look_state.1 (note_is plan.base k name place _ value_is)

    runs : (get_or a.states.rows (n - a.states.first) no_row).state ≡ states.Running w
    runs = (running_state (get_or a.states.rows (n - a.states.first) no_row).state (notes_by plan.base (get_or a.rows (n - a.states.first) no_notes).notes) notes (get_or a.rows (n - a.states.first) no_notes).contents w
        (sym (state_shown plan a kept n look_line) ∙ may.running)).0

    l_is : l ≡ with_state (row_at (board_of plan.base a) n) (Running w more)
    unfolding l
    l_is =
        ap (λ (y : Kept). row_with plan.base (get_or a.states.rows (n - a.states.first) no_row) y (get_or a.store.lines (n - a.states.first) store.no_entries)) x_is
        ∙ ap (λ (y : LineState). with_state (row_by plan.base a (n - a.states.first)) (state_of y (notes_by plan.base ((get_or a.rows (n - a.states.first) no_notes).notes ++ note_with k name place ∷ [])) (get_or a.rows (n - a.states.first) no_notes).contents)) runs
        ∙ ap (λ (y : List Note). with_state (row_by plan.base a (n - a.states.first)) (Running w y)) more_is
        ∙ ap (λ (y : Row). with_state y (Running w more)) (sym at)

    pub seen_board : board_of plan.base q ≡ steps.seen plan (board_of plan.base a) w k n notes name
    unfolding more
    seen_board = board_eq _ _
        (ap (λ (y : Board). y.first) (board_is plan.base a q n l look_line seen_puts))
        (ap (λ (y : Board). y.rows) (board_is plan.base a q n l look_line seen_puts) ∙ ap (λ (y : Row). (put_row (board_of plan.base a) n y).rows) l_is)
        (ap (λ (y : List (Option ℕ)). length y) hands_is)
        clock_is
        (ap (λ (y : States). y.counts.commits) states_is)
        (ap (λ (y : States). y.counts.takes) states_is)
        (ap (λ (y : States). y.counts.failed) states_is)
        (ap (λ (y : States). y.counts.stops) states_is)

    pub seen_returns : LookStep plan (board_of plan.base a) w k (Seen name (found_by plan.base k (option_map contents_at place))) (board_of plan.base q)
    seen_returns = (n, notes, may, found_is, value_is, seen_board)

    pub seen_kept : IsKept plan q
    seen_kept = kept_put plan a q n l kept look_line seen_puts
        (look_step plan (board_of plan.base a) w k (Seen name (found_by plan.base k (option_map contents_at place))) (board_of plan.base q) kept.reached seen_returns)
        (subst (λ y. HandsHold y (row_at (board_of plan.base q))) (sym hands_is)
        (hand_same a.hands (row_at (board_of plan.base a)) (row_at (board_of plan.base q)) n l (row_new plan.base a q n l look_line seen_puts) (row_old plan.base a q n l look_line seen_puts) kept.hand
        (ap (λ (y : Row). holder y.state) l_is ∙ sym (ap holder may.running))))
        (λ h. subst IsCommitted may.running h)
        (ap (λ (y : States). y.counts.commits) states_is)
        latest_is
        (λ v ns last h. (let z : Running w more ≡ Placing v ns last = sym (ap (λ (y : Row). y.state) l_is) ∙ h in absurd (cc)))

-- ---- the same on the board that a value shows
module _ {J : Type 0} (x : Inside J) (plan : Planned) (same : x.plan.now ≡ plan) (kept : IsKept plan (parts_of x)) (b : Board) (view : board_of x.plan.now.base (parts_of x) ≡ b)
    (w n : ℕ) (k : Key) (notes : List Note) (may : MayLook b w k n notes) where
  is : board_of plan.base (parts_of x) ≡ b
  is = board_shown x plan b same view

  may_is : MayLook (board_of plan.base (parts_of x)) w k n notes
  may_is = subst (λ (y : Board). MayLook y w k n notes) (sym is) may

  pub line_here : IsLine (board_of plan.base (parts_of x)) n
  line_here = look_line plan (parts_of x) kept w n k notes may_is

  pub live_here : IsSomeAnd (state_at x.attempts n) (λ s. is_live s ≡ true)
  live_here = live_stands plan (parts_of x) kept n line_here (ap live_of may_is.running)

  pub hand_here : w < length x.hands.items
  hand_here = look_within plan (parts_of x) kept w n k notes may_is

  -- the attempt ends
  pub stopped_here : (t : States) → t ≡ moves.stopped x.attempts n
      → (board_of x.plan.now.base (record (parts_of x) { states = t; hands = set x.hands.items w None }) ≡ steps.stopped b n) × IsKept plan (record (parts_of x) { states = t; hands = set x.hands.items w None })
  stopped_here t stops =
      let q : Parts = record (parts_of x) { states = t; hands = set x.hands.items w None } in (
        ap (λ (y : Planned). board_of y.base q) same ∙ stop_board plan (parts_of x) kept w n k notes may_is q stops refl refl refl refl refl ∙ ap (λ (y : Board). steps.stopped y n) is,
        stop_kept plan (parts_of x) kept w n k notes may_is q stops refl refl refl refl refl,
      )

  pub fresh_here : (spot : LineRow J) → kept_at (parts_of x) n ≡ row_shown spot → is_noted spot.notes k ≡ false
  fresh_here spot was = look_unnoted plan (parts_of x) kept w n k notes may_is (is_noted spot.notes k) (ap (λ (y : Kept). is_noted y.notes k) was)

  -- the name and the place of the visible entry
  module _ (name : Name) (place : Option (Place J)) (named : IsNameOf (visible (store.line_at x.entries) n k) name place) where
    named_is : (found (row_at (board_of plan.base (parts_of x))) n k ≡ Named name) × (found_by plan.base k (option_map contents_at place) ≡ value_at plan (row_at (board_of plan.base (parts_of x))) n k)
    named_is = named_seen plan (parts_of x) kept n k name place named

    pub would_grow : Grows plan b (Look w k)
    would_grow = (name, value_at plan (row_at b) n k, steps.seen plan b w k n notes name, (n, notes, may, subst (λ (y : Board). found (row_at y) n k ≡ Named name) is named_is.0, refl, refl))

    module _ (spot : LineRow J) (was : kept_at (parts_of x) n ≡ row_shown spot) (ns : List Noted) (rows : List Kept) (rows_is : rows ≡ set (parts_of x).rows (n - x.attempts.first) (record (row_shown spot) { notes = ns })) where
      pub seen_here : ns ≡ spot.notes ++ note_with k name place ∷ []
          → LookStep plan b w k (Seen name (found_by plan.base k (option_map contents_at place))) (board_of x.plan.now.base (record (parts_of x) { rows = rows })) × IsKept plan (record (parts_of x) { rows = rows })
      seen_here more_is =
          let q : Parts = record (parts_of x) { rows = rows } in
          let reply = Seen name (found_by plan.base k (option_map contents_at place)) in
          let l : Kept = record (row_shown spot) { notes = ns } in
          let l_is = ap (λ (y : List Noted). record (row_shown spot) { notes = y }) more_is ∙ ap (λ (y : Kept). record y { notes = y.notes ++ note_with k name place ∷ [] }) (sym was) in (
            subst (λ (y : Board). LookStep plan y w k reply (board_of x.plan.now.base q)) is
                (subst (λ (y : Planned). LookStep plan (board_of plan.base (parts_of x)) w k reply (board_of y.base q)) (sym same)
                (seen_returns plan (parts_of x) kept w n k notes may_is name place named_is.0 named_is.1 q l refl refl rows_is l_is refl refl refl)),
            seen_kept plan (parts_of x) kept w n k notes may_is name place named_is.0 named_is.1 q l refl refl rows_is l_is refl refl refl,
          )

      -- nothing was noted
      pub rows_here : ns ≡ spot.notes → rows ≡ (parts_of x).rows
      rows_here none =
          rows_is
          ∙ ap (λ (y : List Noted). set (parts_of x).rows (n - x.attempts.first) (record (row_shown spot) { notes = y })) none
          ∙ ap (λ (y : Kept). set (parts_of x).rows (n - x.attempts.first) y) (sym was)
          ∙ set-get_or (parts_of x).rows (n - x.attempts.first) no_notes
