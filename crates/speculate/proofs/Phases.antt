-- A line that is run alone: each call goes on.
use Rattle.std.proofs.Common.{◌≡◌, ◌≢◌, ℕ, zero, suc, ◌+◌, ◌-◌, ◌<◌, ◌≤◌, Bool, true, false, List, [], ◌∷◌, ◌++◌, Option, Some, None, length, slice_get, refl, sym, ap, subst, ◌∙◌, inl, inr, arith}
use Rattle.std.specs.Prelude.{if◌then◌else◌}
use Rattle.std.specs.FinMap.{insert, remove}
use Rattle.std.proofs.lemmas.Bool.{cases_eq, cases_lt}
use Rattle.std.proofs.lemmas.Option.{none-some, slice_get_within}
use Rattle.circ_records.specs.declared.key.Key.{Key}
use Rattle.circ_records.specs.declared.record.Record.{Record}
use Rattle.sip_answer.specs.declared.answer.Answer.{Answer}
use Rattle.read_set.specs.Plans.{Planned}
use Rattle.read_set.specs.Settling.{Contents}
use Rattle.read_set.specs.declared.notes.Name.{Name}
use Rattle.read_set.specs.declared.notes.Name.TheVariants as names
use Rattle.read_set.specs.declared.notes.Note.{Note}
use Rattle.version_store.specs.Entries.{Shown, above, found_of, shown_by}
use Rattle.version_store.specs.declared.entry.Found.{Found}
use Rattle.version_store.specs.declared.entry.Found.TheVariants.{Named, Suspect}
use Rattle.board_steps.specs.Board.{Board, EachNote, IsCommitted, IsLine, Row, State, entry, found, holder, row_at, seen_entry, value_at}
use Rattle.board_steps.specs.Board.State.{Waiting, Running, Placing, Done, Checking, Committed}
use Rattle.board_steps.specs.Reached.{IsNow, Reached}
use Rattle.board_steps.specs.Steps.{Call, Compares, Differs, Fits, HasRoom, IsFree, MayCommit, MayLook, MayPublish, MayTake, Reply, Step, placed, lifted, put_row, seen, taken, with_state}
use Rattle.board_steps.specs.Steps.Call.{Take, Look, Publish, Check, Commit}
use Rattle.board_steps.specs.Steps.Reply.{Idle, Taken, Seen, Stopped, Stranger, Placed, Lifted, Whole, Same, Changed, Commits, Later, Attempts, ClockSpent}
use Rattle.board_steps.proofs.Entries.{each_push}
use Rattle.board_steps.proofs.Histories.{committed_clear}
use Rattle.board_steps.proofs.Lines.{row_put, row_put_off, length_put}
use Rattle.board_steps.proofs.Steps.{step_reached}
use Rattle.board_steps.proofs.Views.{visible_entry}
use Rattle.board_lines.specs.Acts.{IsPlacing}
use Rattle.board_lines.specs.Hands.{notes_of}
use Rattle.speculate.specs.Devices.Phases.{Appears, AreFresh, Checks, GoesOn, Holds, IsAppearing, IsChecked, Proves, Reads, Spares, Stands, Waits, left_of}

-- ---- what is seen
above_same : (n : ℕ) (o p : Option Shown) (x y : Option (ℕ × Shown)) → o ≡ p → x ≡ y → above n o x ≡ above n p y
above_same n o p x y e f = ap (λ (z : Option Shown). above n z x) e ∙ ap (λ (z : Option (ℕ × Shown)). above n p z) f

seen_same : (rows others : ℕ → Row) (n : ℕ) (k : Key) → ((m : ℕ) → m < n → others m ≡ rows m) → seen_entry others n k ≡ seen_entry rows n k
seen_same rows others zero k same = refl
seen_same rows others (suc n) k same =
    above_same n (entry (others n) k) (entry (rows n) k) (seen_entry others n k) (seen_entry rows n k) (ap (λ (r : Row). entry r k) (same n (omega arith))) (seen_same rows others n k (λ m lt. same m (omega (arith, lt))))

-- the lines below decide what is seen
found_same : (rows others : ℕ → Row) (n : ℕ) (k : Key) → ((m : ℕ) → m < n → others m ≡ rows m) → found others n k ≡ found rows n k
found_same rows others n k same = ap found_of (seen_same rows others n k same)

still_now : (rows others : ℕ → Row) (n : ℕ) (notes : List Note) → ((m : ℕ) → m < n → others m ≡ rows m) → EachNote notes (IsNow rows n) → EachNote notes (IsNow others n)
still_now rows others n notes same now j x at = found_same rows others n x.key same ∙ now j x at

not_suspect : (b : Bool) (x y a m : ℕ) → b ≡ false → if b then Suspect x else Named (names.Made a y) ≡ Suspect m → ⊥
not_suspect true x y a m e h = cc
not_suspect false x y a m e h = cc

suspect_of : (rows : ℕ → Row) (n : ℕ) (k : Key) (m : ℕ) (o : Option (ℕ × Shown)) → seen_entry rows n k ≡ o → ((q : ℕ) (k : Key) (e : Shown) → q < n → entry (rows q) k ≡ Some e → e.suspect ≡ false) → found_of o ≡ Suspect m → ⊥
suspect_of rows n k m None is clear h = cc
suspect_of rows n k m (Some p) is clear h =
    let seen = visible_entry rows n k p is in not_suspect p.1.suspect p.0 p.0 p.1.attempt m (clear p.0 k p.1 seen.0 seen.1) h

-- where no entry below is suspect, none is seen
none_suspect : (rows : ℕ → Row) (n : ℕ) (k : Key) (m : ℕ) → ((q : ℕ) (k : Key) (e : Shown) → q < n → entry (rows q) k ≡ Some e → e.suspect ≡ false) → found rows n k ≡ Suspect m → ⊥
none_suspect rows n k m clear h = suspect_of rows n k m (seen_entry rows n k) refl clear h

module _ (plan : Planned) (b : Board) (line : ℕ) (stands : Stands plan b line) where
  -- a line in hand is this one
  held_is : (m w : ℕ) → holder (row_at b m).state ≡ Some w → m ≡ line
  held_is m w h = elim (cases_eq m line) [ inl e ↦ e | inr ne ↦ absurd (stands.others m w ne h) ]

  -- no line has changed since now
  unchanged : (m : ℕ) → (row_at b m).changed ≤ b.clock
  unchanged m = (stands.reached.rows.each m).past

  -- no entry below is suspect: the lines there are committed
  below_clear : (q : ℕ) (k : Key) (e : Shown) → q < line → entry (row_at b q) k ≡ Some e → e.suspect ≡ false
  below_clear q k e lt h = elim (cases_lt q plan.first) [
    | inl before ↦ absurd (none-some e (sym (stands.reached.rows.bare q before k) ∙ h))
    | inr from ↦ committed_clear plan b stands.reached q (stands.reached.rows.first q from (omega (arith, lt, stands.commits))) k e h
  ]

  -- another row for the line
  pub stands_put : (new : Board) → Reached plan new → ((m : ℕ) → m ≢ line → row_at new m ≡ row_at b m) → new.workers ≡ b.workers → new.committed ≡ b.committed → Stands plan new line
  stands_put new reached off workers commits = record {
    reached = reached;
    worker = omega (arith, stands.worker, workers);
    commits = ap (λ x. plan.first + x) commits ∙ stands.commits;
    others = λ m w ne h. stands.others m w ne (ap (λ (x : Row). holder x.state) (sym (off m ne)) ∙ h);
  }

  -- what is seen from the line stays
  pub seen_stays : (new : Board) (notes : List Note) → ((m : ℕ) → m ≢ line → row_at new m ≡ row_at b m) → EachNote notes (IsNow (row_at b) line) → EachNote notes (IsNow (row_at new) line)
  seen_stays new notes off now = still_now (row_at b) (row_at new) line notes (λ m lt. off m (λ e. omega (arith, e, lt))) now

  -- the line isn't committed
  is_open : IsCommitted (row_at b line).state → ⊥
  is_open h = let lt = stands.reached.rows.only line h in omega (arith, lt, stands.commits)

-- ---- rows that are put
module _ (plan : Planned) (b : Board) (line : ℕ) (stands : Stands plan b line) (there : IsLine b line) (r : Row) (takes clock failed : ℕ) where
  -- the board with another row for the line, and other counts of takes and failed checks, and
  -- another clock
  abbrev with_row : Board
  with_row = record (put_row b line r) { takes = takes; clock = clock; failed = failed }

  row_is : row_at with_row line ≡ r
  row_is = row_put b line r there

  row_off : (m : ℕ) → m ≢ line → row_at with_row m ≡ row_at b m
  row_off m ne = row_put_off b line r m ne

  pub with_row_stands : Reached plan with_row → Stands plan with_row line
  with_row_stands reached = stands_put plan b line stands with_row reached row_off refl refl

  pub with_row_there : IsLine with_row line
  with_row_there = (there.0, omega (arith, there.1, length_put b line r))

  pub with_row_goes : (notes : List Note) → Reached plan with_row → EachNote notes (IsNow (row_at b) line) → GoesOn plan with_row line notes
  with_row_goes notes reached now = record {
    stands = with_row_stands reached;
    there = with_row_there;
    now = seen_stays plan b line stands with_row notes row_off now;
  }

  pub with_row_state : (row_at with_row line).state ≡ r.state
  with_row_state = ap (λ (x : Row). x.state) row_is

  pub with_row_next : (row_at with_row line).next ≡ r.next
  with_row_next = ap (λ (x : Row). x.next) row_is

-- ---- take
module _ (plan : Planned) (b : Board) (line : ℕ) (waits : Waits plan b line) where
  waiting : (row_at b line).state ≡ Waiting
  waiting = ap (λ (r : Row). r.state) waits.fresh

  may_take : MayTake b 0 line
  may_take = record {
    within = waits.there;
    free = (
      waits.stands.worker,
      λ m. elim (cases_eq m line) [
        | inl e ↦ (λ h. none-some 0 (sym (ap (λ q. holder (row_at b q).state) e ∙ ap holder waiting) ∙ h))
        | inr ne ↦ waits.stands.others m 0 ne
      ],
    );
    waiting = waiting;
  }

  begun : Row
  begun = record (row_at b line) { state = Running 0 []; next = (row_at b line).next + 1 }

  taken_reads : Reached plan (taken b 0 line) → Reads plan (taken b 0 line) line [] × (suc (row_at b line).next ≡ (row_at (taken b 0 line) line).next)
  unfolding begun
  taken_reads reached = (
    record {
      goes = with_row_goes plan b line waits.stands waits.there begun (b.takes + 1) b.clock b.failed [] reached (λ j x at. absurd (none-some x at));
      state = with_row_state plan b line waits.stands waits.there begun (b.takes + 1) b.clock b.failed;
    },
    (let e : (row_at (taken b 0 line) line).next ≡ (row_at b line).next + 1 = with_row_next plan b line waits.stands waits.there begun (b.takes + 1) b.clock b.failed in omega (arith, e)),
  )

  pub take_goes : (a : ℕ) (new : Board) → Step plan b (Take 0 line) (Taken a) new → Reads plan new line [] × (suc a ≡ (row_at new line).next)
  take_goes a new h =
      let reached = step_reached plan b new (Take 0 line) (Taken a) waits.stands.reached tt h in
      let e : new ≡ taken b 0 line = h.3 in
      let done = taken_reads (subst (λ x. Reached plan x) e reached) in
      (subst (λ x. Reads plan x line []) (sym e) done.0, ap suc h.2 ∙ done.1 ∙ ap (λ (x : Board). (row_at x line).next) (sym e))

  -- it has attempts left
  pub take_never_spent : (n : ℕ) (new : Board) → Step plan b (Take 0 line) (Attempts n) new → ⊥
  take_never_spent n new h = omega (arith, h.1, ap (λ (r : Row). r.next) waits.fresh)

  pub take_never_idle : (new : Board) → Step plan b (Take 0 line) Idle new → ⊥
  take_never_idle new h = h.0 may_take

-- ---- look
module _ (plan : Planned) (b : Board) (line : ℕ) (notes : List Note) (reads : Reads plan b line notes) where
  stands_here : Stands plan b line
  stands_here = reads.goes.stands

  same_notes : (n : ℕ) (k : Key) (others : List Note) → MayLook b 0 k n others → n ≡ line → others ≡ notes
  same_notes n k others may e = let z : Running 0 others ≡ Running 0 notes = sym may.running ∙ ap (λ q. (row_at b q).state) e ∙ reads.state in cc

  is_line : (n : ℕ) (k : Key) (others : List Note) → MayLook b 0 k n others → n ≡ line
  is_line n k others may = held_is plan b line stands_here n 0 (ap holder may.running)

  note_now : Key → Name → Option Record → Note
  note_now k name value = record { key = k; name = name; found = value }

  reads_more : (k : Key) (name : Name) → found (row_at b) line k ≡ Named name → Reached plan (seen plan b 0 k line notes name)
      → Reads plan (seen plan b 0 k line notes name) line (notes ++ note_now k name (value_at plan (row_at b) line k) ∷ []) × ((row_at (seen plan b 0 k line notes name) line).next ≡ (row_at b line).next)
  unfolding note_now
  reads_more k name is reached =
      let r : Row = with_state (row_at b line) (Running 0 (notes ++ note_now k name (value_at plan (row_at b) line k) ∷ [])) in (
        record {
          goes = with_row_goes plan b line stands_here reads.goes.there r b.takes b.clock b.failed
              (notes ++ note_now k name (value_at plan (row_at b) line k) ∷ []) reached
              (each_push (IsNow (row_at b) line) notes (note_now k name (value_at plan (row_at b) line k)) reads.goes.now is);
          state = with_row_state plan b line stands_here reads.goes.there r b.takes b.clock b.failed;
        },
        with_row_next plan b line stands_here reads.goes.there r b.takes b.clock b.failed,
      )

  pub look_goes : (k : Key) (name : Name) (value : Option Record) (new : Board) → Step plan b (Look 0 k) (Seen name value) new
      → Reads plan new line (notes ++ record { key = k; name = name; found = value } ∷ []) × ((row_at new line).next ≡ (row_at b line).next)
  unfolding note_now
  look_goes k name value new (n, others, may, is, v, e) =
      let at = is_line n k others may in
      let same = same_notes n k others may at in
      let reached = step_reached plan b new (Look 0 k) (Seen name value) stands_here.reached tt (n, others, may, is, v, e) in
      let is_new : new ≡ seen plan b 0 k line notes name = e ∙ ap (λ q. seen plan b 0 k q others name) at ∙ ap (λ ns. seen plan b 0 k line ns name) same in
      let is_value : value ≡ value_at plan (row_at b) line k = v ∙ ap (λ q. value_at plan (row_at b) q k) at in
      let found_here : found (row_at b) line k ≡ Named name = subst (λ q. found (row_at b) q k ≡ Named name) at is in
      let done = reads_more k name found_here (subst (λ x. Reached plan x) is_new reached) in (
        subst (λ x. Reads plan x line (notes ++ record { key = k; name = name; found = value } ∷ [])) (sym is_new)
            (subst (λ (x : Option Record). Reads plan (seen plan b 0 k line notes name) line (notes ++ record { key = k; name = name; found = x } ∷ [])) (sym is_value) done.0),
        ap (λ (x : Board). (row_at x line).next) is_new ∙ done.1,
      )

  may_look : (k : Key) → EachNote notes (λ x. x.key ≢ k) → MayLook b 0 k line notes
  may_look k fresh = record { running = reads.state; unnoted = fresh }

  pub look_never_idle : (k : Key) (new : Board) → EachNote notes (λ x. x.key ≢ k) → Step plan b (Look 0 k) Idle new → ⊥
  look_never_idle k new fresh h = h.0 line notes (may_look k fresh)

  pub look_never_stops : (k : Key) (m : ℕ) (new : Board) → Step plan b (Look 0 k) (Stopped m) new → ⊥
  look_never_stops k m new (n, others, may, is, e) =
      let at = is_line n k others may in
      none_suspect (row_at b) line k m (below_clear plan b line stands_here) (subst (λ q. found (row_at b) q k ≡ Suspect m) at is)

-- ---- publish
pub publish_held : (b : Board) (w n : ℕ) (notes : List Note) → MayPublish b w n notes → (holder (row_at b n).state ≡ Some w) × (notes_of (row_at b n).state ≡ notes)
publish_held b w n notes (inl is) = (ap holder is, ap notes_of is)
publish_held b w n notes (inr (last, is)) = (ap holder is, ap notes_of is)

may_publish : (b : Board) (line : ℕ) (v : Contents) → IsAppearing (row_at b line).state v → MayPublish b 0 line v.reads
may_publish b line v (inl is) = inl is
may_publish b line v (inr is) = inr (Some v, is)

module _ (plan : Planned) (b : Board) (line : ℕ) (v : Contents) (appears : Appears plan b line v) where
  may_here : MayPublish b 0 line v.reads
  may_here = may_publish b line v appears.state

  goes_here : GoesOn plan b line v.reads
  goes_here = appears.goes

  line_is : (n : ℕ) (notes : List Note) → MayPublish b 0 n notes → n ≡ line
  line_is n notes may = held_is plan b line goes_here.stands n 0 (publish_held b 0 n notes may).0

  fits_here : Fits b line v.reads v
  fits_here = record { same_line = appears.of_line; same_attempt = appears.attempt; same_notes = refl }

  -- the line with other entries
  changed_appears : (r : Row) → r.state ≡ Placing 0 v.reads (Some v) → r.next ≡ (row_at b line).next → Reached plan (record (put_row b line r) { clock = b.clock + 1 })
      → Appears plan (record (put_row b line r) { clock = b.clock + 1 }) line v
  changed_appears r is next reached = record {
    goes = with_row_goes plan b line goes_here.stands goes_here.there r b.takes (b.clock + 1) b.failed v.reads reached goes_here.now;
    state = inr (with_row_state plan b line goes_here.stands goes_here.there r b.takes (b.clock + 1) b.failed ∙ is);
    of_line = appears.of_line;
    attempt = appears.attempt ∙ sym next ∙ sym (with_row_next plan b line goes_here.stands goes_here.there r b.takes (b.clock + 1) b.failed);
    settles = appears.settles;
  }

  placed_appears : (k : Key) → Reached plan (placed b 0 line v.reads v k) → Appears plan (placed b 0 line v.reads v k) line v
  placed_appears k reached =
      changed_appears (record (row_at b line) { state = Placing 0 v.reads (Some v); changed = b.clock + 1; entries = insert (row_at b line).entries k (shown_by v.attempt v) }) refl refl reached

  lifted_appears : (k : Key) → Reached plan (lifted b 0 line v.reads v k) → Appears plan (lifted b 0 line v.reads v k) line v
  lifted_appears k reached =
      changed_appears (record (row_at b line) { state = Placing 0 v.reads (Some v); changed = b.clock + 1; entries = remove (row_at b line).entries k }) refl refl reached

  whole_board : Board
  whole_board = put_row b line (with_state (row_at b line) (Done v.reads v.answer None))

  whole_proves : Reached plan whole_board → Proves plan whole_board line
  unfolding whole_board
  whole_proves reached =
      let r : Row = with_state (row_at b line) (Done v.reads v.answer None) in
      let goes = with_row_goes plan b line goes_here.stands goes_here.there r b.takes b.clock b.failed v.reads reached goes_here.now in
      record {
        notes = v.reads;
        checks = record {
          stands = goes.stands;
          there = goes.there;
          state = subst (λ s. IsChecked s v.reads b.clock) (sym (with_row_state plan b line goes_here.stands goes_here.there r b.takes b.clock b.failed)) refl;
        };
        now = goes.now;
      }

  pub placed_goes : (new : Board) → Step plan b (Publish 0 v) Placed new → Appears plan new line v × (new.clock ≡ b.clock + 1) × HasRoom b
  placed_goes new (n, notes, may, fits, k, value, is_next, room, e) =
      let is_new : new ≡ placed b 0 line v.reads v k = e ∙ ap (λ q. placed b 0 q notes v k) (line_is n notes may) ∙ ap (λ ns. placed b 0 line ns v k) (sym fits.same_notes) in
      let reached = step_reached plan b new (Publish 0 v) Placed goes_here.stands.reached appears.settles (n, notes, may, fits, k, value, is_next, room, e) in
      (subst (λ x. Appears plan x line v) (sym is_new) (placed_appears k (subst (λ x. Reached plan x) is_new reached)), ap (λ (x : Board). x.clock) is_new, room)

  pub lifted_goes : (new : Board) → Step plan b (Publish 0 v) Lifted new → Appears plan new line v × (new.clock ≡ b.clock + 1) × HasRoom b
  lifted_goes new (n, notes, may, fits, all, k, is_next, room, e) =
      let is_new : new ≡ lifted b 0 line v.reads v k = e ∙ ap (λ q. lifted b 0 q notes v k) (line_is n notes may) ∙ ap (λ ns. lifted b 0 line ns v k) (sym fits.same_notes) in
      let reached = step_reached plan b new (Publish 0 v) Lifted goes_here.stands.reached appears.settles (n, notes, may, fits, all, k, is_next, room, e) in
      (subst (λ x. Appears plan x line v) (sym is_new) (lifted_appears k (subst (λ x. Reached plan x) is_new reached)), ap (λ (x : Board). x.clock) is_new, room)

  pub whole_goes : (new : Board) → Step plan b (Publish 0 v) Whole new → Proves plan new line
  unfolding whole_board
  whole_goes new (n, notes, may, fits, all, none, e) =
      let is_new : new ≡ whole_board =
      e ∙ ap (λ q. put_row b q (with_state (row_at b q) (Done notes v.answer None))) (line_is n notes may)
      ∙ ap (λ ns. put_row b line (with_state (row_at b line) (Done ns v.answer None))) (sym fits.same_notes) in
      let reached = step_reached plan b new (Publish 0 v) Whole goes_here.stands.reached appears.settles (n, notes, may, fits, all, none, e) in
      subst (λ x. Proves plan x line) (sym is_new) (whole_proves (subst (λ x. Reached plan x) is_new reached))

  pub publish_never_idle : (new : Board) → Step plan b (Publish 0 v) Idle new → ⊥
  publish_never_idle new h = h.0 line v.reads may_here

  pub publish_no_stranger : (new : Board) → Step plan b (Publish 0 v) Stranger new → ⊥
  publish_no_stranger new (n, notes, may, not, e) =
      let at = line_is n notes may in
      let same : notes ≡ v.reads = sym (publish_held b 0 n notes may).1 ∙ ap (λ q. notes_of (row_at b q).state) at ∙ (publish_held b 0 line v.reads may_here).1 in
      not (subst (λ q. Fits b q notes v) (sym at) (subst (λ ns. Fits b line ns v) (sym same) fits_here))

  last_of : (s : State) (u : Contents) (notes : List Note) → s ≡ Placing 0 notes (Some u) → IsAppearing s v → u ≡ v
  last_of s u notes is (inl run) = let z : Placing 0 notes (Some u) ≡ Running 0 v.reads = sym is ∙ run in cc
  last_of s u notes is (inr placing) = let z : Placing 0 notes (Some u) ≡ Placing 0 v.reads (Some v) = sym is ∙ placing in cc

  -- the version of the last act is this one
  pub last_act : (u : Contents) → IsPlacing b 0 (Some u) → u ≡ v
  last_act u (n, notes, is) =
      let at : n ≡ line = held_is plan b line goes_here.stands n 0 (ap holder is) in
      last_of (row_at b line).state u notes (subst (λ q. (row_at b q).state ≡ Placing 0 notes (Some u)) at is) appears.state

-- ---- check
module _ (plan : Planned) (b : Board) (line : ℕ) (ns : List Note) (checks : Checks plan b line ns) where
  compared_notes : (notes : List Note) (answer : Option Answer) (t i : ℕ) → Compares b 0 line notes answer t i → (notes ≡ ns) × (t ≡ b.clock)
  compared_notes notes answer t i (inl (free, (s, is), now, none)) = (subst (λ x. IsChecked x ns b.clock) is checks.state, now)
  compared_notes notes answer t i (inr is) = let h = subst (λ x. IsChecked x ns b.clock) is checks.state in (h.1, h.2)

  -- what is left before and after a name is compared
  left_less : (notes : List Note) (answer : Option Answer) (t i : ℕ) (x : Note) → Compares b 0 line notes answer t i → slice_get notes i ≡ Some x → length notes - (i + 1) < left_of (row_at b line).state
  left_less notes answer t i x (inl (free, (s, is), now, none)) at = let l = ap left_of is in omega (arith, l, none)
  left_less notes answer t i x (inr is) at = let l = ap left_of is in omega (arith, l, slice_get_within notes i x at)

  module _ (notes : List Note) (answer : Option Answer) (t : ℕ) (same : notes ≡ ns) (now : t ≡ b.clock) where
    compared_checks : (i : ℕ) → Reached plan (put_row b line (with_state (row_at b line) (Checking 0 notes answer t i)))
        → Checks plan (put_row b line (with_state (row_at b line) (Checking 0 notes answer t i))) line ns × (left_of (row_at (put_row b line (with_state (row_at b line) (Checking 0 notes answer t i))) line).state ≡ length notes - i)
    compared_checks i reached =
        let r : Row = with_state (row_at b line) (Checking 0 notes answer t i) in
        let state : (row_at (put_row b line r) line).state ≡ Checking 0 notes answer t i = with_row_state plan b line checks.stands checks.there r b.takes b.clock b.failed in (
          record {
            stands = with_row_stands plan b line checks.stands checks.there r b.takes b.clock b.failed reached;
            there = with_row_there plan b line checks.stands checks.there r b.takes b.clock b.failed;
            state = subst (λ s. IsChecked s ns b.clock) (sym state) (refl, same, now);
          },
          ap left_of state,
        )

    checked_holds : Reached plan (put_row b line (with_state (row_at b line) (Done notes answer (Some t)))) → Holds plan (put_row b line (with_state (row_at b line) (Done notes answer (Some t)))) line
    checked_holds reached =
        let r : Row = with_state (row_at b line) (Done notes answer (Some t)) in
        record {
          stands = with_row_stands plan b line checks.stands checks.there r b.takes b.clock b.failed reached;
          there = with_row_there plan b line checks.stands checks.there r b.takes b.clock b.failed;
          notes = notes;
          answer = answer;
          state = with_row_state plan b line checks.stands checks.there r b.takes b.clock b.failed ∙ ap (λ u. Done notes answer (Some u)) now;
        }

  pub same_checks : (new : Board) → Step plan b (Check 0 line) Same new
      → Checks plan new line ns × (left_of (row_at new line).state < left_of (row_at b line).state) × ((m : ℕ) → m ≢ line → row_at new m ≡ row_at b m)
  same_checks new (notes, answer, t, i, compares, x, at, is_now, e) =
      let c = compared_notes notes answer t i compares in
      let reached = step_reached plan b new (Check 0 line) Same checks.stands.reached tt (notes, answer, t, i, compares, x, at, is_now, e) in
      let p = compared_checks notes answer t c.0 c.1 (i + 1) (subst (λ y. Reached plan y) e reached) in
      let less = left_less notes answer t i x compares at in (
        subst (λ y. Checks plan y line ns) (sym e) p.0,
        subst (λ (y : Board). left_of (row_at y line).state < left_of (row_at b line).state) (sym e) (omega (arith, p.1, less)),
        λ m ne. ap (λ (y : Board). row_at y m) e ∙ row_put_off b line (with_state (row_at b line) (Checking 0 notes answer t (i + 1))) m ne,
      )

  pub checked_goes : (new : Board) → Step plan b (Check 0 line) Whole new → Holds plan new line
  checked_goes new (notes, answer, t, i, compares, all, e) =
      let c = compared_notes notes answer t i compares in
      let reached = step_reached plan b new (Check 0 line) Whole checks.stands.reached tt (notes, answer, t, i, compares, all, e) in
      subst (λ y. Holds plan y line) (sym e) (checked_holds notes answer t c.0 c.1 (subst (λ y. Reached plan y) e reached))

  free_if : (s : State) → (row_at b line).state ≡ s → holder s ≡ None → IsFree b 0
  free_if s is none = (
    checks.stands.worker,
    λ m. elim (cases_eq m line) [
      | inl e ↦ (λ h. none-some 0 (sym none ∙ sym (ap holder is) ∙ sym (ap (λ q. holder (row_at b q).state) e) ∙ h))
      | inr ne ↦ checks.stands.others m 0 ne
    ],
  )

  compares_so : (s : State) → (row_at b line).state ≡ s → IsChecked s ns b.clock → (notes : List Note) × (answer : Option Answer) × (t : ℕ) × (i : ℕ) × Compares b 0 line notes answer t i
  compares_so (Done notes answer stamp) is h = (notes, answer, b.clock, 0, inl (free_if (Done notes answer stamp) is refl, (stamp, is), refl, refl))
  compares_so (Checking w notes answer t i) is h = (notes, answer, t, i, inr (is ∙ ap (λ x. Checking x notes answer t i) h.0))
  compares_so Waiting is h = absurd h
  compares_so (Running w notes) is h = absurd h
  compares_so (Placing w notes last) is h = absurd h
  compares_so (Committed answer) is h = absurd h

  pub check_never_idle : (new : Board) → Step plan b (Check 0 line) Idle new → ⊥
  check_never_idle new h = let (notes, answer, t, i, c) = compares_so (row_at b line).state refl checks.state in h.0 notes answer t i c

-- its names are so now
module _ (plan : Planned) (b : Board) (line : ℕ) (proves : Proves plan b line) where
  pub same_goes : (new : Board) → Step plan b (Check 0 line) Same new → Proves plan new line × (left_of (row_at new line).state < left_of (row_at b line).state)
  same_goes new h =
      let s = same_checks plan b line proves.notes proves.checks new h in
      (record { notes = proves.notes; checks = s.0; now = seen_stays plan b line proves.checks.stands new proves.notes s.2 proves.now }, s.1)

  never_differs : (notes : List Note) (answer : Option Answer) (t i : ℕ) (key : Key) (noted : Name) (now : Found) → Compares b 0 line notes answer t i → Differs b line notes i key noted now → ⊥
  never_differs notes answer t i key noted now compares d =
      let same : notes ≡ proves.notes = (compared_notes plan b line proves.notes proves.checks notes answer t i compares).0 in
      let each : EachNote notes (IsNow (row_at b) line) = subst (λ ns. EachNote ns (IsNow (row_at b) line)) (sym same) proves.now in
      d.other (d.now_is ∙ each i (record { key = key; name = noted; found = d.value }) d.note)

  pub check_never_changes : (key : Key) (noted : Name) (now : Found) (new : Board) → Step plan b (Check 0 line) (Changed key noted now) new → ⊥
  check_never_changes key noted now new (notes, answer, t, i, compares, d, rest) = never_differs notes answer t i key noted now compares d

  pub check_never_spent : (new : Board) → Step plan b (Check 0 line) ClockSpent new → ⊥
  check_never_spent new (notes, answer, t, i, compares, (key, noted, now, d), some, room, rest) = never_differs notes answer t i key noted now compares d

-- ---- commit
module _ (plan : Planned) (b : Board) (line : ℕ) (holds : Holds plan b line) where
  may_commit : MayCommit b line holds.notes holds.answer b.clock
  may_commit = record {
    below = λ m from lt. holds.stands.reached.rows.first m (omega (arith, from, holds.stands.reached.first)) (omega (arith, lt, holds.stands.commits));
    done = holds.state;
    unchanged = λ m lt. unchanged plan b line holds.stands m;
  }

  committed_stands : (answer : Option Answer) (new : Board) → new ≡ record (put_row b line (with_state (row_at b line) (Committed answer))) { committed = b.committed + 1 } → Reached plan new → Stands plan new (line + 1)
  committed_stands answer new e reached =
      let r : Row = with_state (row_at b line) (Committed answer) in
      let at : row_at new line ≡ r = ap (λ (x : Board). row_at x line) e ∙ row_put b line r holds.there in
      let off : (m : ℕ) → m ≢ line → row_at new m ≡ row_at b m = λ m ne. ap (λ (x : Board). row_at x m) e ∙ row_put_off b line r m ne in
      record {
        reached = reached;
        worker = omega (arith, holds.stands.worker, ap (λ (x : Board). x.workers) e);
        commits = omega (arith, holds.stands.commits, ap (λ (x : Board). x.committed) e);
        others = λ m w above h. elim (cases_eq m line) [
          | inl q ↦ none-some w (sym (ap (λ j. holder (row_at new j).state) q ∙ ap (λ (x : Row). holder x.state) at) ∙ h)
          | inr ne ↦ holds.stands.others m w ne (sym (ap (λ (x : Row). holder x.state) (off m ne)) ∙ h)
        ];
      }

  pub commit_goes : (new : Board) → Step plan b (Commit line) Commits new → Stands plan new (line + 1)
  commit_goes new (notes, answer, t, may, e) =
      committed_stands answer new e (step_reached plan b new (Commit line) Commits holds.stands.reached tt (notes, answer, t, may, e))

  pub commit_never_later : (new : Board) → Step plan b (Commit line) Later new → ⊥
  commit_never_later new h = h.2 holds.notes holds.answer b.clock may_commit

  pub commit_never_idle : (new : Board) → Step plan b (Commit line) Idle new → ⊥
  commit_never_idle new h = elim h.0 [
    | inl not ↦ not holds.there
    | inr is ↦ is_open plan b line holds.stands is
  ]

-- ---- what no step for the line moves
-- the step is one for this line
abbrev pub IsFor : Board → ℕ → Call → Type 0
IsFor b line (Take w n) = n ≡ line
IsFor b line (Look w k) = (n : ℕ) (notes : List Note) → MayLook b w k n notes → n ≡ line
IsFor b line (Publish w v) = (n : ℕ) (notes : List Note) → MayPublish b w n notes → n ≡ line
IsFor b line (Check w n) = n ≡ line
IsFor b line (Commit n) = n ≡ line

-- neither a stop nor a failed check
abbrev pub IsKept : Reply → Type 0
IsKept (Stopped m) = ⊥
IsKept (Changed key noted now) = ⊥
IsKept _ = Unit {0}

module _ (plan : Planned) (old new : Board) (line : ℕ) where
  pub spares_same : new ≡ old → Spares old new line
  spares_same e = record { off = λ m ne. ap (λ (x : Board). row_at x m) e; failed = ap (λ (x : Board). x.failed) e; stops = ap (λ (x : Board). x.stops) e }

  spares_put : (n : ℕ) (r : Row) → n ≡ line → ((m : ℕ) → row_at new m ≡ row_at (put_row old n r) m) → new.failed ≡ old.failed → new.stops ≡ old.stops → Spares old new line
  spares_put n r e same failed stops = record { off = λ m ne. same m ∙ row_put_off old n r m (λ q. ne (q ∙ e)); failed = failed; stops = stops }

  pub step_spares : (call : Call) (reply : Reply) → IsFor old line call → IsKept reply → Step plan old call reply new → Spares old new line
  step_spares (Take w n) (Taken a) at kept h = spares_put n _ at (λ m. ap (λ (x : Board). row_at x m) h.3) (ap (λ (x : Board). x.failed) h.3) (ap (λ (x : Board). x.stops) h.3)
  step_spares (Take w n) (Attempts m) at kept h = spares_same h.3
  step_spares (Take w n) Idle at kept h = spares_same h.1
  step_spares (Take w n) _ at kept h = absurd h
  step_spares (Look w k) (Seen name value) at kept h = spares_put h.0 _ (at h.0 h.1 h.2) (λ m. ap (λ (x : Board). row_at x m) h.5) (ap (λ (x : Board). x.failed) h.5) (ap (λ (x : Board). x.stops) h.5)
  step_spares (Look w k) (Stopped m) at kept h = absurd kept
  step_spares (Look w k) Idle at kept h = spares_same h.1
  step_spares (Look w k) _ at kept h = absurd h
  step_spares (Publish w v) Placed at kept h = spares_put h.0 _ (at h.0 h.1 h.2) (λ m. ap (λ (x : Board). row_at x m) h.8) (ap (λ (x : Board). x.failed) h.8) (ap (λ (x : Board). x.stops) h.8)
  step_spares (Publish w v) Lifted at kept h = spares_put h.0 _ (at h.0 h.1 h.2) (λ m. ap (λ (x : Board). row_at x m) h.8) (ap (λ (x : Board). x.failed) h.8) (ap (λ (x : Board). x.stops) h.8)
  step_spares (Publish w v) Whole at kept h = spares_put h.0 _ (at h.0 h.1 h.2) (λ m. ap (λ (x : Board). row_at x m) h.6) (ap (λ (x : Board). x.failed) h.6) (ap (λ (x : Board). x.stops) h.6)
  step_spares (Publish w v) Stranger at kept h = spares_same h.4
  step_spares (Publish w v) ClockSpent at kept h = spares_same h.6
  step_spares (Publish w v) Idle at kept h = spares_same h.1
  step_spares (Publish w v) _ at kept h = absurd h
  step_spares (Check w n) Same at kept h = spares_put n _ at (λ m. ap (λ (x : Board). row_at x m) h.8) (ap (λ (x : Board). x.failed) h.8) (ap (λ (x : Board). x.stops) h.8)
  step_spares (Check w n) (Changed key noted now) at kept h = absurd kept
  step_spares (Check w n) Whole at kept h = spares_put n _ at (λ m. ap (λ (x : Board). row_at x m) h.6) (ap (λ (x : Board). x.failed) h.6) (ap (λ (x : Board). x.stops) h.6)
  step_spares (Check w n) ClockSpent at kept h = spares_same h.8
  step_spares (Check w n) Idle at kept h = spares_same h.1
  step_spares (Check w n) _ at kept h = absurd h
  step_spares (Commit n) Commits at kept h = spares_put n _ at (λ m. ap (λ (x : Board). row_at x m) h.4) (ap (λ (x : Board). x.failed) h.4) (ap (λ (x : Board). x.stops) h.4)
  step_spares (Commit n) Later at kept h = spares_same h.3
  step_spares (Commit n) Idle at kept h = spares_same h.1
  step_spares (Commit n) _ at kept h = absurd h

-- which steps worker 0 makes for the line
pub look_for : (plan : Planned) (b : Board) (line : ℕ) → Stands plan b line → (k : Key) → IsFor b line (Look 0 k)
look_for plan b line stands k = λ n notes may. held_is plan b line stands n 0 (ap holder may.running)

pub publish_for : (plan : Planned) (b : Board) (line : ℕ) → Stands plan b line → (v : Contents) → IsFor b line (Publish 0 v)
publish_for plan b line stands v = λ n notes may. held_is plan b line stands n 0 (publish_held b 0 n notes may).0

pub spares_none : (b : Board) (line : ℕ) → Spares b b line
spares_none b line = record { off = λ m ne. refl; failed = refl; stops = refl }

pub spares_on : (a b c : Board) (line : ℕ) → Spares a b line → Spares b c line → Spares a c line
spares_on a b c line x y = record { off = λ m ne. y.off m ne ∙ x.off m ne; failed = y.failed ∙ x.failed; stops = y.stops ∙ x.stops }

-- the next line, and those above it, are as they were
pub fresh_on : (old new : Board) (line : ℕ) → AreFresh old line → Spares old new line → AreFresh new (line + 1)
fresh_on old new line fresh spares = record {
  above = λ m le. spares.off m (λ e. omega (arith, e, le)) ∙ fresh.above m (omega (arith, le));
  failed = spares.failed ∙ fresh.failed;
  stops = spares.stops ∙ fresh.stops;
}
