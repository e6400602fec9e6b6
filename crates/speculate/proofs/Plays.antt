-- Steps of workers, one after another.
use Rattle.std.proofs.Common.{◌≡◌, ℕ, suc, List, [], ◌∷◌, ◌++◌, Option, Some, None, Result, Ok, Err, OnOk, IfErr, option_map, refl, sym, ap, ◌∙◌, subst, ◌⊎◌, inl, inr}
use Rattle.circ_records.specs.declared.key.Key.{Key}
use Rattle.read_set.specs.Plans.{Planned}
use Rattle.message_meaning.specs.Needs.{IsNeed}
use Rattle.message_meaning.proofs.LineReach.{wanted}
use Rattle.message_meaning.proofs.Whole.{given_all}
use Rattle.read_set.proofs.Keeping.{true-agrees}
use Rattle.read_set.specs.Asks.{Reached as Outcome, Done as EndsIn, Wants as AsksFor}
use Rattle.read_set.specs.Notes.{noted}
use Rattle.read_set.specs.declared.effect.Effect.{Effect}
use Rattle.read_set.specs.Settling.{Contents}
use Rattle.read_set.specs.declared.notes.Note.{Note}
use Rattle.read_set.specs.declared.version.Need.{Need}
use Rattle.read_set.specs.declared.version.Need.TheVariants as needs
use Rattle.board_steps.specs.Board.{Board, row_at, holder}
use Rattle.board_steps.specs.Board.State.{Placing, Running}
use Rattle.board_steps.specs.Reached.{Reached}
use Rattle.board_steps.specs.Steps.{Call, IsVersion, MayPublish, Reply, Step}
use Rattle.board_steps.specs.Steps.Call.{Take as TheTake, Look as TheLook, Publish as ThePublish, Check as TheCheck, Commit as TheCommit}
use Rattle.board_steps.specs.Steps.Reply.{Idle, Taken, Seen, Stopped, Stranger, Placed, Lifted, Whole, Same, Changed, Commits, Later, Attempts, ClockSpent}
use Rattle.speculate.specs.Ending.{ended_by}
use Rattle.board_lines.specs.Acts.{IsPlacing, IsToPublish as HasToPublish, notes_at}
use Rattle.board_lines.specs.Hands.{HasNoLine, IsHand, notes_of}
use Rattle.board_lines.specs.declared.hand.Hand.{Hand}
use Rattle.speculate.specs.Needed.{IsNext, IsRunning, IsToPublish, SettlesIfDone, needed_key, needed_version}
use Rattle.board_lines.specs.Notes.{found_by, contents_at}
use Rattle.speculate.specs.Playing.{Goes, HasLast, HasRunning, HasVersion, InHand, IsRefused, Looks, MayWant, Plays, Publishes, ToPublish, Wants, refusal, stands_at}
use Rattle.board_lines.specs.Replies.{Answers, Grows}
use Rattle.board_lines.specs.declared.reply.Reply.{Reply as CodeReply}
use Rattle.board_lines.specs.declared.reply.Reply.TheVariants as replies
use Rattle.speculate.specs.declared.steps.BoardFault.{BoardFault}
use Rattle.speculate.specs.declared.steps.BoardFault.TheVariants as faults
use Rattle.speculate.specs.declared.steps.Step.{Step as WorkerStep}
use Rattle.speculate.specs.declared.steps.Step.TheVariants as steps

-- a step more at the end
pub plays_more : (plan : Planned) (old mid new : Board) (done : List WorkerStep) (step : WorkerStep) → Plays plan old done mid → Goes plan mid step new → Plays plan old (done ++ step ∷ []) new
plays_more plan old mid new [] step plays goes = (new, subst (λ b. Goes plan b step new) plays goes, refl)
plays_more plan old mid new (first ∷ done) step plays goes = (plays.0, plays.1, plays_more plan plays.0 mid new done step plays.2 goes)

-- where a call is refused
abbrev pub CallRefused : Planned → Board → Call → BoardFault → Type 0
CallRefused plan b call (faults.Attempts n) = Step plan b call (Attempts n) b
CallRefused plan b call faults.ClockSpent = Step plan b call ClockSpent b
CallRefused plan b call faults.Memory = Grows plan b call

abbrev pub CallEnds : Planned → Board → Call → Result (Unit {0}) BoardFault → Board → Type 0
CallEnds plan old call (Ok u) new = (reply : Reply) × Step plan old call reply new × (refusal reply ≡ None)
CallEnds plan old call (Err fault) new = CallRefused plan old call fault × (new ≡ old)

attempts_same : (plan : Planned) (old new : Board) (call : Call) (n : ℕ) → Step plan old call (Attempts n) new → new ≡ old
attempts_same plan old new (TheTake w m) n h = h.3
attempts_same plan old new (TheLook w k) n h = absurd h
attempts_same plan old new (ThePublish w v) n h = absurd h
attempts_same plan old new (TheCheck w m) n h = absurd h
attempts_same plan old new (TheCommit m) n h = absurd h

spent_same : (plan : Planned) (old new : Board) (call : Call) → Step plan old call ClockSpent new → new ≡ old
spent_same plan old new (TheTake w m) h = absurd h
spent_same plan old new (TheLook w k) h = absurd h
spent_same plan old new (ThePublish w v) h = h.6
spent_same plan old new (TheCheck w m) h = h.8
spent_same plan old new (TheCommit m) h = absurd h

-- a call of the board, by its reply
pub call_ends : {J : Type 0} (plan : Planned) (old new : Board) (call : Call) (reply : CodeReply J) → Answers plan old call reply new → CallEnds plan old call (ended_by reply) new
call_ends plan old new call replies.Idle h = (Idle, h, refl)
call_ends plan old new call (replies.Taken attempt) h = (Taken attempt, h, refl)
call_ends plan old new (TheLook w k) (replies.Seen name place) h = (Seen name (found_by plan.base k (option_map contents_at place)), h, refl)
call_ends plan old new (TheTake w n) (replies.Seen name place) h = absurd h
call_ends plan old new (ThePublish w v) (replies.Seen name place) h = absurd h
call_ends plan old new (TheCheck w n) (replies.Seen name place) h = absurd h
call_ends plan old new (TheCommit n) (replies.Seen name place) h = absurd h
call_ends plan old new call (replies.Suspect line) h = (Stopped line, h, refl)
call_ends plan old new call replies.Stranger h = (Stranger, h, refl)
call_ends plan old new call replies.Placed h = (Placed, h, refl)
call_ends plan old new call replies.Lifted h = (Lifted, h, refl)
call_ends plan old new call replies.Whole h = (Whole, h, refl)
call_ends plan old new call replies.Same h = (Same, h, refl)
call_ends plan old new call (replies.Changed key noted found) h = (Changed key noted found, h, refl)
call_ends plan old new call replies.Committed h = (Commits, h, refl)
call_ends plan old new call replies.Later h = (Later, h, refl)
call_ends plan old new call (replies.Attempts line) h =
    let same = attempts_same plan old new call line h in (subst (λ b. Step plan old call (Attempts line) b) same h, same)
call_ends plan old new call replies.ClockSpent h =
    let same = spent_same plan old new call h in (subst (λ b. Step plan old call ClockSpent b) same h, same)
call_ends plan old new call replies.Memory h = (h.0, h.1)

-- how a worker's step ends
abbrev pub StepEnds : Planned → Board → WorkerStep → Result (Unit {0}) BoardFault → Board → Type 0
StepEnds plan old step (Ok u) new = Goes plan old step new
StepEnds plan old step (Err fault) new = IsRefused plan old step fault new

pub take_ends : (plan : Planned) (old new : Board) (w n : ℕ) (r : Result (Unit {0}) BoardFault) → CallEnds plan old (TheTake w n) r new → StepEnds plan old (steps.Take w n) r new
take_ends plan old new w n (Ok u) h = h
take_ends plan old new w n (Err (faults.Attempts m)) h = h
take_ends plan old new w n (Err faults.ClockSpent) h = h
take_ends plan old new w n (Err faults.Memory) h = h

pub check_ends : (plan : Planned) (old new : Board) (w n : ℕ) (r : Result (Unit {0}) BoardFault) → CallEnds plan old (TheCheck w n) r new → StepEnds plan old (steps.Check w n) r new
check_ends plan old new w n (Ok u) h = h
check_ends plan old new w n (Err (faults.Attempts m)) h = h
check_ends plan old new w n (Err faults.ClockSpent) h = h
check_ends plan old new w n (Err faults.Memory) h = h

pub commit_ends : (plan : Planned) (old new : Board) (n : ℕ) (r : Result (Unit {0}) BoardFault) → CallEnds plan old (TheCommit n) r new → StepEnds plan old (steps.Commit n) r new
commit_ends plan old new n (Ok u) h = h
commit_ends plan old new n (Err (faults.Attempts m)) h = h
commit_ends plan old new n (Err faults.ClockSpent) h = h
commit_ends plan old new n (Err faults.Memory) h = h

-- a look at a key that is wanted
pub look_ends : (plan : Planned) (old new : Board) (w : ℕ) (k : Key) (r : Result (Unit {0}) BoardFault) → Wants plan old w k → CallEnds plan old (TheLook w k) r new → StepEnds plan old (steps.Look w) r new
look_ends plan old new w k (Ok u) wants h = (h.0, inl (k, wants, h.1), h.2)
look_ends plan old new w k (Err (faults.Attempts m)) wants h = (inl (k, wants, h.0), h.1)
look_ends plan old new w k (Err faults.ClockSpent) wants h = (inl (k, wants, h.0), h.1)
look_ends plan old new w k (Err faults.Memory) wants h = ((h.0.3.0, h.0.3.1, h.0.3.2.running), h.1)

pub look_idle : (plan : Planned) (old : Board) (w : ℕ) → HasNoLine old w ⊎ ((v : Contents) × HasVersion plan old w v) → Goes plan old (steps.Look w) old
look_idle plan old w why = (Idle, inr (why, refl, refl), refl)

-- an act of publication of a version that settles
pub publish_ends : (plan : Planned) (old new : Board) (w : ℕ) (v : Contents) (r : Result (Unit {0}) BoardFault) → (Grows plan old (ThePublish w v) → MayWant plan old (steps.Publish w)) → ToPublish plan old w v → IsVersion plan v → CallEnds plan old (ThePublish w v) r new → StepEnds plan old (steps.Publish w) r new
publish_ends plan old new w v (Ok u) wants ready settles h = (h.0, inl (v, ready, settles, h.1), h.2)
publish_ends plan old new w v (Err (faults.Attempts m)) wants ready settles h = (inl (v, ready, settles, h.0), h.1)
publish_ends plan old new w v (Err faults.ClockSpent) wants ready settles h = (inl (v, ready, settles, h.0), h.1)
publish_ends plan old new w v (Err faults.Memory) wants ready settles h = (wants h.0, h.1)

pub publish_idle : (plan : Planned) (old : Board) (w : ℕ) → Publishes plan old w Idle old → Goes plan old (steps.Publish w) old
publish_idle plan old w is = (Idle, is, refl)

-- a call whose reply was judged
pub call_judged : {J : Type 0} (plan : Planned) (old new : Board) (call : Call) (reply : CodeReply J) (r : Result (Unit {0}) BoardFault) → Answers plan old call reply new → r ≡ ended_by reply → CallEnds plan old call r new
call_judged plan old new call reply r h e = subst (λ x. CallEnds plan old call x new) (sym e) (call_ends plan old new call reply h)

pub ends_well : (plan : Planned) (old new : Board) (step : WorkerStep) (r : Result (Unit {0}) BoardFault) → StepEnds plan old step r new → OnOk r (Goes plan old step new)
ends_well plan old new step (Ok u) h = h
ends_well plan old new step (Err fault) h = tt

pub ends_refused : (plan : Planned) (old new : Board) (step : WorkerStep) (r : Result (Unit {0}) BoardFault) → StepEnds plan old step r new → IfErr r (λ fault. IsRefused plan old step fault new)
ends_refused plan old new step (Ok u) h = tt
ends_refused plan old new step (Err fault) h = h

-- both clauses
pub ends : (plan : Planned) (old new : Board) (step : WorkerStep) (r : Result (Unit {0}) BoardFault) → StepEnds plan old step r new
    → record { goes : OnOk r (Goes plan old step new); refused : IfErr r (λ fault. IsRefused plan old step fault new) }
ends plan old new step r h = record { goes = ends_well plan old new step r h; refused = ends_refused plan old new step r h }

-- the hand, its line's notes, and what it needs
pub in_hand : (plan : Planned) (b : Board) (w n a : ℕ) (notes : List Note) → Reached plan b → holder (row_at b n).state ≡ Some w → suc a ≡ (row_at b n).next
    → (m : ℕ) × (holder (row_at b m).state ≡ Some w) × (notes_of (row_at b m).state ≡ notes) → InHand b w n a notes
in_hand plan b w n a notes reached held next (m, holds, noted) =
    let same : m ≡ n = reached.hands m n w holds held in
    record { held = held; attempt = next; noted = subst (λ x. notes_of (row_at b x).state ≡ notes) same noted }

pub next_is : {J : Type 0} (plan : Planned) (b : Board) (w n a : ℕ) (notes : List Note) (next : Need J) → HasRunning b w → InHand b w n a notes → IsNeed plan n a notes next → SettlesIfDone plan next → IsNext plan b w (Some next)
next_is plan b w n a notes (needs.Key k) runs hand need settles = (runs, (n, a, notes, hand, need.1, need.0))
next_is plan b w n a notes (needs.Done v) runs hand need settles = (runs, (n, a, notes, hand, need.1, need.2, need.3, need.0, settles))

-- a line of which a part is published doesn't run
pub placing_rests : (plan : Planned) (b : Board) (w : ℕ) (h : Hand) (v : Contents) → Reached plan b → IsHand b w (Some h) → IsPlacing b w (Some v) → IsRunning b w None
placing_rests plan b w h v reached hand (n, notes, is) = inr (
  h,
  hand,
  λ runs.
      let same : runs.0 ≡ n = reached.hands runs.0 n w (ap holder runs.2) (ap holder is) in
      let apart : Running w runs.1 ≡ Placing w notes (Some v) = sym runs.2 ∙ ap (λ x. (row_at b x).state) same ∙ is in
      cc,
)

-- nor does one that isn't to be published
pub other_rests : (b : Board) (w : ℕ) (h : Hand) → IsHand b w (Some h) → HasToPublish b w None → IsRunning b w None
other_rests b w h hand none = inr (h, hand, λ runs. none runs.0 runs.1 (inl runs.2))

-- one that is to be published, and of which nothing is published yet, runs
pub runs_there : (b : Board) (w : ℕ) (h p : Hand) → IsHand b w (Some h) → IsPlacing b w None → HasToPublish b w (Some p) → IsRunning b w (Some h)
runs_there b w h p hand none (there, inl run, attempt) = (hand, (p.line, notes_at b p.line, run))
runs_there b w h p hand none (there, inr (last, is), attempt) = absurd (none p.line (notes_at b p.line) last is)

-- where the rule of a line ends on its notes, the line has a version
has_version : (plan : Planned) (b : Board) (w n a : ℕ) (notes : List Note) (e : Effect) → InHand b w n a notes → stands_at plan n notes ≡ EndsIn e
    → HasVersion plan b w (record { line = n; attempt = a; reads = notes; writes = e.writes; answer = e.answer })
has_version plan b w n a notes e hand ends = (n, a, notes, hand, refl, refl, refl, ends, λ M true. given_all (noted notes) plan n (Ok e) ends M (true-agrees notes M true))

-- a line that doesn't run looks at nothing, however far its rule has come
rests_looking : (plan : Planned) (b : Board) (w n a : ℕ) (notes : List Note) (o : Outcome Effect) → stands_at plan n notes ≡ o → InHand b w n a notes → (HasRunning b w → ⊥) → Looks plan b w Idle b
rests_looking plan b w n a notes (AsksFor k) is hand not = inl (k, (n, a, notes, hand, is, wanted (noted notes) plan n k is), (λ m others may. not (m, others, may.running), refl))
rests_looking plan b w n a notes (EndsIn e) is hand not = inr (inr (_, has_version plan b w n a notes e hand is), refl, refl)

pub look_rests : {J : Type 0} (plan : Planned) (b : Board) (w : ℕ) (next : Option (Need J)) → IsNext plan b w next → None ≡ needed_key next → Goes plan b (steps.Look w) b
look_rests plan b w None (inl none) e = look_idle plan b w (inl none)
look_rests plan b w None (inr (h, hand, not)) e =
    (Idle, rests_looking plan b w h.line h.attempt (notes_of (row_at b h.line).state) _ refl (record { held = hand.0; attempt = hand.1; noted = refl }) not, refl)
look_rests plan b w (Some (needs.Key k)) is e = absurd (cc)
look_rests plan b w (Some (needs.Done v)) is e = look_idle plan b w (inr (v, is.1))

pub look_wants : {J : Type 0} (plan : Planned) (b : Board) (w : ℕ) (next : Option (Need J)) (k : Key) → IsNext plan b w next → Some k ≡ needed_key next → Wants plan b w k
look_wants plan b w None k is e = absurd (cc)
look_wants plan b w (Some (needs.Key q)) k is e = let same : q ≡ k = cc in subst (λ x. Wants plan b w x) same is.1
look_wants plan b w (Some (needs.Done v)) k is e = absurd (cc)

-- no line is being published by the worker
none_placing : (b : Board) (w : ℕ) → IsPlacing b w None → (u : Contents) → HasLast b w u → ⊥
none_placing b w not u (n, notes, is) = not n notes (Some u) is

no_publish : (b : Board) (w : ℕ) → (HasRunning b w → ⊥) → IsPlacing b w None → (n : ℕ) (notes : List Note) → MayPublish b w n notes → ⊥
no_publish b w not none n notes (inl run) = not (n, notes, run)
no_publish b w not none n notes (inr (last, is)) = none n notes last is

-- nor does it publish
rests_publishing : (plan : Planned) (b : Board) (w n a : ℕ) (notes : List Note) (o : Outcome Effect) → stands_at plan n notes ≡ o → InHand b w n a notes
    → (HasRunning b w → ⊥) → IsPlacing b w None → Publishes plan b w Idle b
rests_publishing plan b w n a notes (AsksFor k) is hand not none = inr (inr (none_placing b w none, k, (n, a, notes, hand, is, wanted (noted notes) plan n k is)), refl, refl)
rests_publishing plan b w n a notes (EndsIn e) is hand not none =
    let has = has_version plan b w n a notes e hand is in
    inl (_, inr (none_placing b w none, has), has.8, (no_publish b w not none, refl))

pub none_to_publish : {J : Type 0} (plan : Planned) (b : Board) (w : ℕ) (next : Option (Need J)) → IsPlacing b w None → IsNext plan b w next → None ≡ needed_version next → IsToPublish plan b w None
none_to_publish plan b w None none (inl line) e = inr (inl line, refl, refl)
none_to_publish plan b w None none (inr (h, hand, not)) e =
    rests_publishing plan b w h.line h.attempt (notes_of (row_at b h.line).state) _ refl (record { held = hand.0; attempt = hand.1; noted = refl }) not none
none_to_publish plan b w (Some (needs.Key k)) none is e = inr (inr (none_placing b w none, k, is.1), refl, refl)
none_to_publish plan b w (Some (needs.Done v)) none is e = absurd (cc)

one_to_publish : {J : Type 0} (plan : Planned) (b : Board) (w : ℕ) (next : Option (Need J)) (v : Contents) → IsNext plan b w next → Some v ≡ needed_version next → HasRunning b w × HasVersion plan b w v
one_to_publish plan b w None v is e = absurd (cc)
one_to_publish plan b w (Some (needs.Key q)) v is e = absurd (cc)
one_to_publish plan b w (Some (needs.Done u)) v is e = let same : u ≡ v = cc in subst (λ x. HasRunning b w × HasVersion plan b w x) same is

pub new_to_publish : {J : Type 0} (plan : Planned) (b : Board) (w : ℕ) (next : Option (Need J)) (v u : Contents) → IsPlacing b w None → IsNext plan b w next → Some v ≡ needed_version next → u ≡ v → IsToPublish plan b w (Some u)
new_to_publish plan b w next v u none is e same =
    let has = one_to_publish plan b w next v is e in
    subst (λ x. IsToPublish plan b w (Some x)) (sym same) (has.0, inr (none_placing b w none, has.1), has.1.8)
