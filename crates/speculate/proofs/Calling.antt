-- What each call does to the sets.
use Rattle.std.proofs.Common.{◌≡◌, ◌≢◌, ℕ, ◌+◌, ◌-◌, Bool, true, false, not, ◌||◌, eqb, List, [], ◌∷◌, ◌++◌, Option, Some, None, refl, sym, ap, subst, ◌∙◌, inl, inr, arith}
use Rattle.std.specs.Prelude.{is_some, option_map}
use Rattle.std.proofs.lemmas.Bool.{not-true, not-false, eqb-true, eqb-false}
use Rattle.std.specs.FinMap.{insert, remove}
use Rattle.circ_records.specs.declared.record.Record.{Record}
use Rattle.circ_records.specs.declared.key.Key.{Key}
use Rattle.sip_answer.specs.declared.answer.Answer.{Answer}
use Rattle.read_set.specs.Plans.{Planned}
use Rattle.read_set.specs.Settling.{Contents}
use Rattle.read_set.specs.declared.notes.Name.{Name}
use Rattle.read_set.specs.declared.notes.Note.{Note}
use Rattle.version_store.specs.Entries.{shown_by, suspected}
use Rattle.version_store.specs.declared.entry.Found.{Found}
use Rattle.board_steps.specs.Board.{State, Row, Board, IsLine, row_at, holder, value_at}
use Rattle.board_steps.specs.Board.State.{Waiting, Running, Placing, Done, Checking, Committed}
use Rattle.board_steps.specs.Reached.{Reached}
use Rattle.board_steps.specs.Steps.{TakeStep, LookStep, PublishStep, CheckStep, CommitStep, Compares, MayPublish, with_state}
use Rattle.board_steps.specs.Steps.Call.{Take, Look, Publish, Check, Commit}
use Rattle.board_steps.specs.Steps.Reply.{Idle, Taken, Seen, Stopped, Placed, Lifted, Whole, Same, Changed, Commits}
use Rattle.board_steps.proofs.Lines.{within_board}
use Rattle.board_lines.specs.Hands.{IsHand}
use Rattle.board_lines.specs.Notes.{found_by, contents_at}
use Rattle.board_lines.specs.Replies.{Answers}
use Rattle.board_lines.specs.declared.hand.Hand.{Hand}
use Rattle.board_lines.specs.declared.reply.Reply.{Reply}
use Rattle.board_lines.specs.declared.reply.Reply.TheVariants as replies
use Rattle.speculate.specs.declared.ready.Mark.{Mark}
use Rattle.speculate.specs.declared.ready.Mark.TheVariants as marks
use Rattle.speculate.specs.declared.ready.Ready.{Ready}
use Rattle.speculate.specs.Marks.{Fits, Follows, IsStill, HasTurned, IsMarked, IsReady, Puts, Loses, SendsBack, ended, has_position, is_in_check}
use Rattle.speculate.proofs.Marking.{puts_none}
use Rattle.speculate.proofs.Readying.{stamp_by, Turns, turns_put, ready_put, ready_change}

-- ---- lines in a state
-- a line in another state than Waiting is there
pub line_in : (b : Board) (n : ℕ) (s : State) → (row_at b n).state ≡ s → (s ≡ Waiting → ⊥) → IsLine b n
line_in b n s e ne = within_board b n (λ h. ne (sym e ∙ h))

pub line_running : (b : Board) (n w : ℕ) (notes : List Note) → (row_at b n).state ≡ Running w notes → IsLine b n
line_running b n w notes e = line_in b n (Running w notes) e (λ h. cc)

pub line_placing : (b : Board) (n w : ℕ) (notes : List Note) (last : Option Contents) → (row_at b n).state ≡ Placing w notes last → IsLine b n
line_placing b n w notes last e = line_in b n (Placing w notes last) e (λ h. cc)

pub line_done : (b : Board) (n : ℕ) (notes : List Note) (answer : Option Answer) (stamp : Option ℕ) → (row_at b n).state ≡ Done notes answer stamp → IsLine b n
line_done b n notes answer stamp e = line_in b n (Done notes answer stamp) e (λ h. cc)

pub line_checking : (b : Board) (n w : ℕ) (notes : List Note) (answer : Option Answer) (t i : ℕ) → (row_at b n).state ≡ Checking w notes answer t i → IsLine b n
line_checking b n w notes answer t i e = line_in b n (Checking w notes answer t i) e (λ h. cc)

pub line_published : (b : Board) (w n : ℕ) (notes : List Note) → MayPublish b w n notes → IsLine b n
line_published b w n notes may = elim may [
  | inl e ↦ line_running b n w notes e
  | inr p ↦ line_placing b n w notes p.0 p.1
]

pub line_compared : (b : Board) (w n : ℕ) (notes : List Note) (answer : Option Answer) (t i : ℕ) → Compares b w n notes answer t i → IsLine b n
line_compared b w n notes answer t i h = elim h [
  | inl f ↦ line_done b n notes answer f.1.0 f.1.1
  | inr e ↦ line_checking b n w notes answer t i e
]

pub held_by_publisher : (b : Board) (w n : ℕ) (notes : List Note) → MayPublish b w n notes → holder (row_at b n).state ≡ Some w
held_by_publisher b w n notes may = elim may [
  | inl e ↦ ap holder e
  | inr p ↦ ap holder p.1
]

-- ---- hands
pub hand_none : (b : Board) (w : ℕ) (hand : Option Hand) → IsHand b w hand → is_some hand ≡ false → (m : ℕ) → holder (row_at b m).state ≢ Some w
hand_none b w None h e = h
hand_none b w (Some x) h e = absurd (cc)

pub hand_some : (b : Board) (w : ℕ) (hand : Option Hand) → IsHand b w hand → is_some hand ≡ true → (m : ℕ) × (holder (row_at b m).state ≡ Some w)
hand_some b w None h e = absurd (cc)
hand_some b w (Some x) h e = (x.line, h.0)

-- the line that a worker has in hand is there
pub hand_line : (b : Board) (w : ℕ) (h : Hand) → IsHand b w (Some h) → IsLine b h.line
hand_line b w h in_hand = within_board b h.line (λ e. let z : None ≡ Some w = ap holder (sym e) ∙ in_hand.0 in cc)

-- a worker with nothing in hand begins a check, another goes on
begins_free : (b : Board) (w n : ℕ) (notes : List Note) (answer : Option Answer) (t i : ℕ) → ((m : ℕ) → holder (row_at b m).state ≢ Some w) → Compares b w n notes answer t i
    → ((s : Option ℕ) × ((row_at b n).state ≡ Done notes answer s)) × (t ≡ b.clock)
begins_free b w n notes answer t i none h = elim h [
  | inl f ↦ (f.1, f.2)
  | inr e ↦ absurd (none n (ap holder e))
]

goes_on : (b : Board) (w n : ℕ) (notes : List Note) (answer : Option Answer) (t i m : ℕ) → holder (row_at b m).state ≡ Some w → Compares b w n notes answer t i
    → (row_at b n).state ≡ Checking w notes answer t i
goes_on b w n notes answer t i m held h = elim h [
  | inl f ↦ absurd (f.0.1 m held)
  | inr e ↦ e
]

-- the mark of a line, by its state
mark_by : (b : Board) (r : Ready) (n : ℕ) (s : State) → IsReady b r → IsLine b n → (row_at b n).state ≡ s → (mark : Mark) × Fits (row_at b) n s mark × IsMarked r (n - b.first) mark
mark_by b r n s ready there e = let x = ready.each n there in (x.0, subst (λ y. Fits (row_at b) n y x.0) e x.1, x.2)

nowhere_at : (b : Board) (r : Ready) (n : ℕ) (s : State) → IsReady b r → IsLine b n → (row_at b n).state ≡ s → ((mark : Mark) → Fits (row_at b) n s mark → mark ≡ marks.Nowhere)
    → Puts r r (n - b.first) marks.Nowhere
nowhere_at b r n s ready there e is =
    let x = mark_by b r n s ready there e in
    puts_none r (n - b.first) marks.Nowhere (subst (λ y. IsMarked r (n - b.first) y) (is x.0 x.1) x.2)

-- ---- take
pub take_ready : (old new : Board) (w n a : ℕ) (r r' : Ready) → TakeStep old w n (Taken a) new → IsReady old r → Puts r r' (n - old.first) marks.Nowhere → IsReady new r'
take_ready old new w n a r r' h ready puts =
    let row : Row = record (row_at old n) { state = Running w []; next = (row_at old n).next + 1 } in
    let turns : Turns old new n row = turns_put old new n row h.0.within (ap (λ (b : Board). b.first) h.3) (ap (λ (b : Board). b.rows) h.3) (ap (λ (b : Board). b.workers) h.3) in
    ready_put old new n row turns r r' marks.Nowhere refl refl puts ready

pub take_other : {J : Type 0} (plan : Planned) (old new : Board) (w n : ℕ) (r : Ready) (reply : Reply J) → ((a : ℕ) → reply ≡ replies.Taken a → ⊥) → Answers plan old (Take w n) reply new
    → IsReady old r → IsReady new r
take_other plan old new w n r replies.Idle ne h ready = subst (λ b. IsReady b r) (sym h.1) ready
take_other plan old new w n r (replies.Taken a) ne h ready = absurd (ne a refl)
take_other plan old new w n r (replies.Attempts m) ne h ready = subst (λ b. IsReady b r) (sym h.3) ready
take_other plan old new w n r replies.Memory ne h ready = absurd h.0
take_other plan old new w n r _ ne h ready = absurd h

-- ---- look
pub stop_ready : (plan : Planned) (old new : Board) (w m : ℕ) (k : Key) (hand : Hand) (r r' : Ready) → Reached plan old → IsHand old w (Some hand) → LookStep plan old w k (Stopped m) new
    → IsReady old r → Puts r r' (hand.line - old.first) marks.Waiting → IsReady new r'
stop_ready plan old new w m k hand r r' ok in_hand h ready puts =
    let n = h.0 in
    let row : Row = with_state (row_at old n) Waiting in
    let there = line_running old n w h.1 h.2.running in
    let same : hand.line ≡ n = ok.hands hand.line n w in_hand.0 (ap holder h.2.running) in
    let turns : Turns old new n row = turns_put old new n row there (ap (λ (b : Board). b.first) h.4) (ap (λ (b : Board). b.rows) h.4) (ap (λ (b : Board). b.workers) h.4) in
    ready_put old new n row turns r r' marks.Waiting refl refl (subst (λ x. Puts r r' (x - old.first) marks.Waiting) same puts) ready

-- a line that runs on has no mark
see_ready : (plan : Planned) (old new : Board) (w : ℕ) (k : Key) (name : Name) (value : Option Record) (r : Ready) → LookStep plan old w k (Seen name value) new → IsReady old r → IsReady new r
see_ready plan old new w k name value r h ready =
    let n = h.0 in
    let notes : List Note = h.1 ++ record { key = k; name = name; found = value_at plan (row_at old) n k } ∷ [] in
    let row : Row = with_state (row_at old n) (Running w notes) in
    let there = line_running old n w h.1 h.2.running in
    let turns : Turns old new n row = turns_put old new n row there (ap (λ (b : Board). b.first) h.5) (ap (λ (b : Board). b.rows) h.5) (ap (λ (b : Board). b.workers) h.5) in
    ready_put old new n row turns r r marks.Nowhere refl refl (nowhere_at old r n (Running w h.1) ready there h.2.running (λ mark e. e)) ready

pub look_other : {J : Type 0} (plan : Planned) (old new : Board) (w : ℕ) (k : Key) (r : Ready) (reply : Reply J) → ((m : ℕ) → reply ≡ replies.Suspect m → ⊥) → Answers plan old (Look w k) reply new
    → IsReady old r → IsReady new r
look_other plan old new w k r replies.Idle ne h ready = subst (λ b. IsReady b r) (sym h.1) ready
look_other plan old new w k r (replies.Suspect m) ne h ready = absurd (ne m refl)
look_other plan old new w k r (replies.Seen name place) ne h ready = see_ready plan old new w k name (found_by plan.base k (option_map contents_at place)) r h ready
look_other plan old new w k r replies.Memory ne h ready = subst (λ b. IsReady b r) (sym h.1) ready
look_other plan old new w k r _ ne h ready = absurd h

-- a worker with nothing in hand
pub look_idle : (plan : Planned) (b : Board) (w : ℕ) (k : Key) → IsHand b w None → LookStep plan b w k Idle b
look_idle plan b w k none = (λ n notes may. none n (ap holder may.running), refl)

-- ---- publish
-- a line in publication has no mark
nowhere_published : (b : Board) (r : Ready) (w n : ℕ) (notes : List Note) → IsReady b r → MayPublish b w n notes → Puts r r (n - b.first) marks.Nowhere
nowhere_published b r w n notes ready may = elim may [
  | inl e ↦ nowhere_at b r n (Running w notes) ready (line_running b n w notes e) e (λ mark h. h)
  | inr p ↦ nowhere_at b r n (Placing w notes p.0) ready (line_placing b n w notes p.0 p.1) p.1 (λ mark h. h)
]

placed_ready : (plan : Planned) (old new : Board) (w : ℕ) (v : Contents) (hand : Hand) (r r' : Ready) → Reached plan old → IsHand old w (Some hand) → PublishStep old w v Placed new
    → IsReady old r → Loses r r' (hand.line - old.first) → IsReady new r'
placed_ready plan old new w v hand r r' ok in_hand h ready loses =
    let n = h.0 in
    let line : Row = record (row_at old n) { state = Placing w h.1 (Some v); entries = insert (row_at old n).entries h.4 (shown_by v.attempt v) } in
    let row : Row = record line { changed = old.clock + 1 } in
    let same : hand.line ≡ n = ok.hands hand.line n w in_hand.0 (held_by_publisher old w n h.1 h.2) in
    let turns : Turns old new n row = turns_put old new n row (line_published old w n h.1 h.2) (ap (λ (b : Board). b.first) h.8) (ap (λ (b : Board). b.rows) h.8) (ap (λ (b : Board). b.workers) h.8) in
    ready_change old new n row turns r r r' marks.Nowhere (stamp_by plan old ok) (omega arith) refl (nowhere_published old r w n h.1 ready h.2)
    (subst (λ x. Loses r r' (x - old.first)) same loses) ready

lifted_ready : (plan : Planned) (old new : Board) (w : ℕ) (v : Contents) (hand : Hand) (r r' : Ready) → Reached plan old → IsHand old w (Some hand) → PublishStep old w v Lifted new
    → IsReady old r → Loses r r' (hand.line - old.first) → IsReady new r'
lifted_ready plan old new w v hand r r' ok in_hand h ready loses =
    let n = h.0 in
    let line : Row = record (row_at old n) { state = Placing w h.1 (Some v); entries = remove (row_at old n).entries h.5 } in
    let row : Row = record line { changed = old.clock + 1 } in
    let same : hand.line ≡ n = ok.hands hand.line n w in_hand.0 (held_by_publisher old w n h.1 h.2) in
    let turns : Turns old new n row = turns_put old new n row (line_published old w n h.1 h.2) (ap (λ (b : Board). b.first) h.8) (ap (λ (b : Board). b.rows) h.8) (ap (λ (b : Board). b.workers) h.8) in
    ready_change old new n row turns r r r' marks.Nowhere (stamp_by plan old ok) (omega arith) refl (nowhere_published old r w n h.1 ready h.2)
    (subst (λ x. Loses r r' (x - old.first)) same loses) ready

published_ready : (plan : Planned) (old new : Board) (w : ℕ) (v : Contents) (hand : Hand) (r r' : Ready) → Reached plan old → IsHand old w (Some hand) → PublishStep old w v Whole new
    → IsReady old r → Puts r r' (hand.line - old.first) marks.Unchecked → IsReady new r'
published_ready plan old new w v hand r r' ok in_hand h ready puts =
    let n = h.0 in
    let row : Row = with_state (row_at old n) (Done h.1 v.answer None) in
    let same : hand.line ≡ n = ok.hands hand.line n w in_hand.0 (held_by_publisher old w n h.1 h.2) in
    let turns : Turns old new n row = turns_put old new n row (line_published old w n h.1 h.2) (ap (λ (b : Board). b.first) h.6) (ap (λ (b : Board). b.rows) h.6) (ap (λ (b : Board). b.workers) h.6) in
    ready_put old new n row turns r r' marks.Unchecked refl refl (subst (λ x. Puts r r' (x - old.first) marks.Unchecked) same puts) ready

-- an act of publication, whatever its reply
pub follow_ready : {J : Type 0} (plan : Planned) (old new : Board) (w : ℕ) (v : Contents) (hand : Hand) (r r' : Ready) (reply : Reply J) → Reached plan old → IsHand old w (Some hand)
    → Answers plan old (Publish w v) reply new → IsReady old r → Follows reply r r' (hand.line - old.first) → IsReady new r'
follow_ready plan old new w v hand r r' replies.Placed ok in_hand h ready follows = placed_ready plan old new w v hand r r' ok in_hand h ready follows
follow_ready plan old new w v hand r r' replies.Lifted ok in_hand h ready follows = lifted_ready plan old new w v hand r r' ok in_hand h ready follows
follow_ready plan old new w v hand r r' replies.Whole ok in_hand h ready follows = published_ready plan old new w v hand r r' ok in_hand h ready follows
follow_ready plan old new w v hand r r' replies.Idle ok in_hand h ready same = rw (h.1, same) ready
follow_ready plan old new w v hand r r' replies.Stranger ok in_hand h ready same = rw (h.4, same) ready
follow_ready plan old new w v hand r r' replies.ClockSpent ok in_hand h ready same = rw (h.6, same) ready
follow_ready plan old new w v hand r r' replies.Memory ok in_hand h ready same = rw (h.1, same) ready
follow_ready plan old new w v hand r r' _ ok in_hand h ready same = absurd h

pub publish_idle : (b : Board) (w : ℕ) (v : Contents) → IsHand b w None → PublishStep b w v Idle b
publish_idle b w v none = (λ n notes may. none n (held_by_publisher b w n notes may), refl)

-- ---- check
-- a check begins: its stamp is the clock, past which nothing has changed
same_begins : (plan : Planned) (old new : Board) (w n : ℕ) (r r' : Ready) → Reached plan old → ((m : ℕ) → holder (row_at old m).state ≢ Some w) → CheckStep old w n Same new
    → IsReady old r → Puts r r' (n - old.first) marks.Checking → IsReady new r'
same_begins plan old new w n r r' ok none h ready puts =
    let row : Row = with_state (row_at old n) (Checking w h.0 h.1 h.2 (h.3 + 1)) in
    let from = begins_free old w n h.0 h.1 h.2 h.3 none h.4 in
    let turns : Turns old new n row = turns_put old new n row (line_compared old w n h.0 h.1 h.2 h.3 h.4) (ap (λ (b : Board). b.first) h.8) (ap (λ (b : Board). b.rows) h.8) (ap (λ (b : Board). b.workers) h.8) in
    ready_put old new n row turns r r' marks.Checking refl (inl (refl, λ m lt. omega (arith, from.1, (ok.rows.each m).past))) puts ready

pub same_begin : (plan : Planned) (old new : Board) (w n : ℕ) (hand : Option Hand) (r r' : Ready) → Reached plan old → IsHand old w hand → is_some hand ≡ false → CheckStep old w n Same new
    → IsReady old r → Puts r r' (n - old.first) marks.Checking → IsReady new r'
same_begin plan old new w n hand r r' ok in_hand e h ready puts = same_begins plan old new w n r r' ok (hand_none old w hand in_hand e) h ready puts

pub same_goes_on : (plan : Planned) (old new : Board) (w n : ℕ) (hand : Option Hand) (r : Ready) → IsHand old w hand → is_some hand ≡ true → CheckStep old w n Same new
    → IsReady old r → IsReady new r
same_goes_on plan old new w n hand r in_hand e h ready =
    let held = hand_some old w hand in_hand e in
    let row : Row = with_state (row_at old n) (Checking w h.0 h.1 h.2 (h.3 + 1)) in
    let there = line_compared old w n h.0 h.1 h.2 h.3 h.4 in
    let was = mark_by old r n (Checking w h.0 h.1 h.2 h.3) ready there (goes_on old w n h.0 h.1 h.2 h.3 held.0 held.1 h.4) in
    let turns : Turns old new n row = turns_put old new n row there (ap (λ (b : Board). b.first) h.8) (ap (λ (b : Board). b.rows) h.8) (ap (λ (b : Board). b.workers) h.8) in
    ready_put old new n row turns r r was.0 refl was.1 (puts_none r (n - old.first) was.0 was.2) ready

-- whether the check began now or before
module _ (plan : Planned) (old new : Board) (w n : ℕ) (r r' : Ready) (ok : Reached plan old) (h : CheckStep old w n Whole new) (ready : IsReady old r) where
  there : IsLine old n
  there = line_compared old w n h.0 h.1 h.2 h.3 h.4

  row : Row
  row = with_state (row_at old n) (Done h.0 h.1 (Some h.2))

  turns : Turns old new n row
  unfolding row
  turns = turns_put old new n row there (ap (λ (b : Board). b.first) h.6) (ap (λ (b : Board). b.rows) h.6) (ap (λ (b : Board). b.workers) h.6)

  -- the line is checked
  to_checked : IsStill (row_at old) n h.2 → Puts r r' (n - old.first) marks.Checked → IsReady new r'
  unfolding row
  to_checked still puts = ready_put old new n row turns r r' marks.Checked refl (inl (refl, still)) puts ready

  -- a line below has changed since the check began
  to_unchecked : HasTurned (row_at old) n h.2 → Puts r r' (n - old.first) marks.Unchecked → IsReady new r'
  unfolding row
  to_unchecked turned puts = ready_put old new n row turns r r' marks.Unchecked refl (inr (refl, turned)) puts ready

  whole_begins : ((m : ℕ) → holder (row_at old m).state ≢ Some w) → Puts r r' (n - old.first) marks.Checked → IsReady new r'
  whole_begins none puts =
      let from = begins_free old w n h.0 h.1 h.2 h.3 none h.4 in
      to_checked (λ m lt. omega (arith, from.1, (ok.rows.each m).past)) puts

  whole_goes_on : (m : ℕ) → holder (row_at old m).state ≡ Some w → Puts r r' (n - old.first) (ended (has_position r.checking (n - old.first))) → IsReady new r'
  whole_goes_on m held puts =
      let was = mark_by old r n (Checking w h.0 h.1 h.2 h.3) ready there (goes_on old w n h.0 h.1 h.2 h.3 m held h.4) in
      elim was.1 [
        | inl x ↦ to_checked x.1 (subst (λ y. Puts r r' (n - old.first) (ended y)) (was.2.in_checking ∙ ap is_in_check x.0) puts)
        | inr x ↦ to_unchecked x.1 (subst (λ y. Puts r r' (n - old.first) (ended y)) (was.2.in_checking ∙ ap is_in_check x.0) puts)
      ]

  pub whole_ready : (hand : Option Hand) (begins : Bool) → IsHand old w hand → is_some hand ≡ not begins → Puts r r' (n - old.first) (ended (begins || has_position r.checking (n - old.first))) → IsReady new r'
  whole_ready hand true in_hand e puts = whole_begins (hand_none old w hand in_hand e) puts
  whole_ready hand false in_hand e puts = (let held = hand_some old w hand in_hand e in whole_goes_on held.0 held.1 puts)

-- a check fails: the line has entries, and they have changed, or it has none
-- whether the clock is another
pub differs_if : (a b : ℕ) → not (eqb a b) ≡ true → a ≡ b → ⊥
differs_if a b h = eqb-false a b (not-true (eqb a b) h)

pub same_if : (a b : ℕ) → not (eqb a b) ≡ false → a ≡ b
same_if a b h = eqb-true a b (not-false (eqb a b) h)

pub failed_ready : (plan : Planned) (old new : Board) (w n : ℕ) (key : Key) (noted : Name) (now : Found) (r r' : Ready) (changes : Bool) → Reached plan old → CheckStep old w n (Changed key noted now) new
    → (changes ≡ true → new.clock ≢ old.clock) → (changes ≡ false → new.clock ≡ old.clock)
    → IsReady old r → SendsBack r r' (n - old.first) changes → IsReady new r'
failed_ready plan old new w n key noted now r r' true ok h differs same ready sends =
    let there = line_compared old w n h.0 h.1 h.2 h.3 h.4 in
    elim h.6 [
      | inl x ↦ absurd (differs refl (ap (λ (b : Board). b.clock) x.1))
      | inr x ↦
          (let line : Row = record (row_at old n) { state = Waiting; entries = suspected (row_at old n).entries } in
          let row : Row = record line { changed = old.clock + 1 } in
          let turns : Turns old new n row = turns_put old new n row there (ap (λ (b : Board). b.first) x.2) (ap (λ (b : Board). b.rows) x.2) (ap (λ (b : Board). b.workers) x.2) in
          ready_change old new n row turns r sends.0 r' marks.Waiting (stamp_by plan old ok) (omega arith) refl sends.1 sends.2 ready)
    ]
failed_ready plan old new w n key noted now r r' false ok h differs same ready sends =
    let there = line_compared old w n h.0 h.1 h.2 h.3 h.4 in
    elim h.6 [
      | inl x ↦
          (let row : Row = with_state (row_at old n) Waiting in
          let turns : Turns old new n row = turns_put old new n row there (ap (λ (b : Board). b.first) x.1) (ap (λ (b : Board). b.rows) x.1) (ap (λ (b : Board). b.workers) x.1) in
          ready_put old new n row turns r r' marks.Waiting refl refl sends ready)
      | inr x ↦ absurd (let e : old.clock + 1 ≡ old.clock = sym (ap (λ (b : Board). b.clock) x.2) ∙ same refl in omega arith)
    ]

pub check_other : {J : Type 0} (plan : Planned) (old new : Board) (w n : ℕ) (r : Ready) (reply : Reply J)
    → (reply ≡ replies.Same → ⊥) → (reply ≡ replies.Whole → ⊥) → ((key : Key) (noted : Name) (now : Found) → reply ≡ replies.Changed key noted now → ⊥) → Answers plan old (Check w n) reply new
    → IsReady old r → IsReady new r
check_other plan old new w n r replies.Same n1 n2 n3 h ready = absurd (n1 refl)
check_other plan old new w n r replies.Whole n1 n2 n3 h ready = absurd (n2 refl)
check_other plan old new w n r (replies.Changed key noted now) n1 n2 n3 h ready = absurd (n3 key noted now refl)
check_other plan old new w n r replies.Idle n1 n2 n3 h ready = subst (λ b. IsReady b r) (sym h.1) ready
check_other plan old new w n r replies.ClockSpent n1 n2 n3 h ready = subst (λ b. IsReady b r) (sym h.8) ready
check_other plan old new w n r replies.Memory n1 n2 n3 h ready = absurd h.0
check_other plan old new w n r _ n1 n2 n3 h ready = absurd h

-- ---- commit
pub commit_ready : (old new : Board) (n : ℕ) (r r' : Ready) → CommitStep old n Commits new → IsReady old r → Puts r r' (n - old.first) marks.Nowhere → IsReady new r'
commit_ready old new n r r' h ready puts =
    let row : Row = with_state (row_at old n) (Committed h.1) in
    let there = line_done old n h.0 h.1 (Some h.2) h.3.done in
    let turns : Turns old new n row = turns_put old new n row there (ap (λ (b : Board). b.first) h.4) (ap (λ (b : Board). b.rows) h.4) (ap (λ (b : Board). b.workers) h.4) in
    ready_put old new n row turns r r' marks.Nowhere refl refl puts ready

pub commit_other : {J : Type 0} (plan : Planned) (old new : Board) (n : ℕ) (r : Ready) (reply : Reply J) → (reply ≡ replies.Committed → ⊥) → Answers plan old (Commit n) reply new
    → IsReady old r → IsReady new r
commit_other plan old new n r replies.Idle ne h ready = subst (λ b. IsReady b r) (sym h.1) ready
commit_other plan old new n r replies.Later ne h ready = subst (λ b. IsReady b r) (sym h.3) ready
commit_other plan old new n r replies.Committed ne h ready = absurd (ne refl)
commit_other plan old new n r replies.Memory ne h ready = absurd h.0
commit_other plan old new n r _ ne h ready = absurd h
