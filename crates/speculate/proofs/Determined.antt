-- A list of steps leads from a reached board to one board.
use Rattle.std.proofs.Common.{◌≡◌, ◌⊎◌, inl, inr, ℕ, zero, suc, List, [], ◌∷◌, Option, Some, None, refl, sym, ap, ap₂, subst, ◌∙◌, arith}
use Rattle.std.specs.Prelude.{slice_get, take}
use Rattle.circ_records.specs.Records.{Entries}
use Rattle.circ_records.specs.declared.key.Key.{Key}
use Rattle.read_set.specs.Asks.{Done as EndsIn, Wants as AsksFor}
use Rattle.read_set.specs.Plans.{Planned}
use Rattle.read_set.specs.Settling.{Contents}
use Rattle.read_set.specs.declared.effect.Effect.{Effect}
use Rattle.read_set.specs.declared.notes.Note.{Note}
use Rattle.sip_answer.specs.declared.answer.Answer.{Answer}
use Rattle.board_steps.specs.Board.{Board, row_at, holder}
use Rattle.board_steps.specs.Board.State.{Placing}
use Rattle.board_steps.specs.Reached.{Reached}
use Rattle.board_steps.specs.Steps.{Reply, Step}
use Rattle.board_steps.specs.Steps.Call.{Take as TheTake, Look as TheLook, Publish as ThePublish, Check as TheCheck, Commit as TheCommit}
use Rattle.board_steps.proofs.Fixed.{determined}
use Rattle.board_lines.specs.Hands.{HasNoLine, notes_of}
use Rattle.board_steps.specs.Steps.Reply.{Attempts, ClockSpent}
use Rattle.speculate.specs.Playing.{Goes, Halts, HasLast, HasVersion, InHand, Looks, Plays, Publishes, Refuses, Rests, StepOf, ToPublish, Wants, refusal, stands_at}
use Rattle.speculate.specs.declared.steps.BoardFault.{BoardFault}
use Rattle.speculate.specs.declared.steps.BoardFault.TheVariants as faults
use Rattle.speculate.specs.declared.steps.Halt.{Halt}
use Rattle.speculate.specs.declared.steps.Step.{Step as WorkerStep}
use Rattle.speculate.specs.declared.steps.Step.TheVariants as steps
use Rattle.speculate.proofs.Led.{plays_reached, step_of_reached}

-- one reply, and one board
abbrev One : Reply → Board → Reply → Board → Type 0
One r new s other = (r ≡ s) × (new ≡ other)

-- what a version writes and answers, and a version by its parts
abbrev effect : Contents → Effect
effect v = record { writes = v.writes; answer = v.answer }

abbrev contents : ℕ → ℕ → List Note → Entries → Option Answer → Contents
contents line attempt reads writes answer = record { line = line; attempt = attempt; reads = reads; writes = writes; answer = answer }

module _ (plan : Planned) (b : Board) (reached : Reached plan b) (w : ℕ) where
  -- a worker has one line in hand, in one attempt, with its notes
  one_line : (n m a c : ℕ) (notes more : List Note) → InHand b w n a notes → InHand b w m c more → n ≡ m
  one_line n m a c notes more h k = reached.hands n m w h.held k.held

  one_attempt : (n m a c : ℕ) (notes more : List Note) → InHand b w n a notes → InHand b w m c more → a ≡ c
  one_attempt n m a c notes more h k =
      let next : suc a ≡ suc c = h.attempt ∙ ap (λ x. (row_at b x).next) (one_line n m a c notes more h k) ∙ sym k.attempt in omega arith

  one_noted : (n m a c : ℕ) (notes more : List Note) → InHand b w n a notes → InHand b w m c more → notes ≡ more
  one_noted n m a c notes more h k = sym h.noted ∙ ap (λ x. notes_of (row_at b x).state) (one_line n m a c notes more h k) ∙ k.noted

  one_stand : (n m a c : ℕ) (notes more : List Note) → InHand b w n a notes → InHand b w m c more → stands_at plan n notes ≡ stands_at plan m more
  one_stand n m a c notes more h k = ap₂ (λ x ns. stands_at plan x ns) (one_line n m a c notes more h k) (one_noted n m a c notes more h k)

  -- it needs one key, or has one version, and not both
  one_wanted : (k j : Key) → Wants plan b w k → Wants plan b w j → k ≡ j
  one_wanted k j (n, a, notes, h, is, wanted) (m, c, more, i, at, wanted') =
      let e : AsksFor k ≡ AsksFor j = sym is ∙ one_stand n m a c notes more h i ∙ at in cc

  pub not_both : (k : Key) (v : Contents) → Wants plan b w k → HasVersion plan b w v → ⊥
  not_both k v (n, a, notes, h, is, wanted) (m, c, more, i, line, attempt, reads, at, settles) =
      let e : AsksFor k ≡ EndsIn (effect v) = sym is ∙ one_stand n m a c notes more h i ∙ at in cc

  -- versions with the same contents are one
  same_contents : (v u : Contents) → v.line ≡ u.line → v.attempt ≡ u.attempt → v.reads ≡ u.reads → v.writes ≡ u.writes → v.answer ≡ u.answer → v ≡ u
  same_contents v u line attempt reads writes answer =
      ap (λ (x : ℕ). contents x v.attempt v.reads v.writes v.answer) line
      ∙ ap (λ (x : ℕ). contents u.line x v.reads v.writes v.answer) attempt
      ∙ ap (λ (x : List Note). contents u.line u.attempt x v.writes v.answer) reads
      ∙ ap (λ (x : Entries). contents u.line u.attempt u.reads x v.answer) writes
      ∙ ap (λ (x : Option Answer). contents u.line u.attempt u.reads u.writes x) answer

  one_effect : (e f : Effect) → EndsIn e ≡ EndsIn f → e ≡ f
  one_effect e f same = cc

  one_version : (v u : Contents) → HasVersion plan b w v → HasVersion plan b w u → v ≡ u
  one_version v u (n, a, notes, h, line, attempt, reads, is, settles) (m, c, more, i, line', attempt', reads', at, settles') =
      let same = one_effect (effect v) (effect u) (sym is ∙ one_stand n m a c notes more h i ∙ at) in
      same_contents v u
      (line ∙ one_line n m a c notes more h i ∙ sym line') (attempt ∙ one_attempt n m a c notes more h i ∙ sym attempt') (reads ∙ one_noted n m a c notes more h i ∙ sym reads')
      (ap (λ (x : Effect). x.writes) same) (ap (λ (x : Effect). x.answer) same)

  -- the version of the last act
  last_held : (n : ℕ) (notes : List Note) (v : Contents) → (row_at b n).state ≡ Placing w notes (Some v) → holder (row_at b n).state ≡ Some w
  last_held n notes v is = ap holder is

  one_last : (v u : Contents) → HasLast b w v → HasLast b w u → v ≡ u
  one_last v u (n, notes, is) (m, more, at) =
      let line : n ≡ m = reached.hands n m w (last_held n notes v is) (last_held m more u at) in
      let e : Placing w notes (Some v) ≡ Placing w more (Some u) = sym is ∙ ap (λ x. (row_at b x).state) line ∙ at in cc

  last_in_hand : (v : Contents) → HasLast b w v → HasNoLine b w → ⊥
  last_in_hand v (n, notes, is) none = none n (last_held n notes v is)

  one_to_publish : (v u : Contents) → ToPublish plan b w v → ToPublish plan b w u → v ≡ u
  one_to_publish v u (inl last) (inl last') = one_last v u last last'
  one_to_publish v u (inl last) (inr (none, has)) = absurd (none v last)
  one_to_publish v u (inr (none, has)) (inl last) = absurd (none u last)
  one_to_publish v u (inr (none, has)) (inr (none', has')) = one_version v u has has'

  not_at_rest : (v : Contents) → ToPublish plan b w v → Rests plan b w → ⊥
  not_at_rest v (inl last) (inl none) = last_in_hand v last none
  not_at_rest v (inl last) (inr (none, k, wants)) = none v last
  not_at_rest v (inr (none, has)) (inl gone) = gone has.0 has.3.held
  not_at_rest v (inr (none, has)) (inr (none', k, wants)) = not_both k v wants has

  not_idle : (k : Key) → Wants plan b w k → HasNoLine b w ⊎ ((v : Contents) × HasVersion plan b w v) → ⊥
  not_idle k wants (inl none) = none wants.0 wants.3.held
  not_idle k wants (inr (v, has)) = not_both k v wants has

  looks_one : (r : Reply) (new : Board) (s : Reply) (other : Board) → Looks plan b w r new → Looks plan b w s other → One r new s other
  looks_one r new s other (inl (k, wants, step)) (inl (j, wants', step')) =
      determined plan b reached (TheLook w k) r new s other step (subst (λ x. Step plan b (TheLook w x) s other) (one_wanted j k wants' wants) step')
  looks_one r new s other (inl (k, wants, step)) (inr (why, idle, same)) = absurd (not_idle k wants why)
  looks_one r new s other (inr (why, idle, same)) (inl (k, wants, step)) = absurd (not_idle k wants why)
  looks_one r new s other (inr (why, idle, same)) (inr (why', idle', same')) = (idle ∙ sym idle', same ∙ sym same')

  publishes_one : (r : Reply) (new : Board) (s : Reply) (other : Board) → Publishes plan b w r new → Publishes plan b w s other → One r new s other
  publishes_one r new s other (inl (v, ready, settles, step)) (inl (u, ready', settles', step')) =
      determined plan b reached (ThePublish w v) r new s other step (subst (λ x. Step plan b (ThePublish w x) s other) (one_to_publish u v ready' ready) step')
  publishes_one r new s other (inl (v, ready, settles, step)) (inr (why, idle, same)) = absurd (not_at_rest v ready why)
  publishes_one r new s other (inr (why, idle, same)) (inl (v, ready, settles, step)) = absurd (not_at_rest v ready why)
  publishes_one r new s other (inr (why, idle, same)) (inr (why', idle', same')) = (idle ∙ sym idle', same ∙ sym same')

step_one : (plan : Planned) (b : Board) → Reached plan b → (step : WorkerStep) (r : Reply) (new : Board) (s : Reply) (other : Board) → StepOf plan b step r new → StepOf plan b step s other → One r new s other
step_one plan b reached (steps.Take w n) r new s other g h = determined plan b reached (TheTake w n) r new s other g h
step_one plan b reached (steps.Look w) r new s other g h = looks_one plan b reached w r new s other g h
step_one plan b reached (steps.Publish w) r new s other g h = publishes_one plan b reached w r new s other g h
step_one plan b reached (steps.Check w n) r new s other g h = determined plan b reached (TheCheck w n) r new s other g h
step_one plan b reached (steps.Commit n) r new s other g h = determined plan b reached (TheCommit n) r new s other g h

pub plays_one : (plan : Planned) (old new other : Board) (list : List WorkerStep) → Reached plan old → Plays plan old list new → Plays plan old list other → new ≡ other
plays_one plan old new other [] reached same same' = same ∙ sym same'
plays_one plan old new other (step ∷ more) reached (mid, (r, goes, kept), plays) (mid', (s, goes', kept'), plays') =
    let same = (step_one plan old reached step s mid' r mid goes' goes).1 in
    plays_one plan mid new other more (step_of_reached plan old mid step r reached goes) plays (subst (λ (x : Board). Plays plan x more other) same plays')

-- a step that goes on isn't refused, unless memory runs out
refused_one : (plan : Planned) (b new : Board) → Reached plan b → (step : WorkerStep) (r s : Reply) (f : BoardFault) → StepOf plan b step r new → refusal r ≡ None → StepOf plan b step s b → refusal s ≡ Some f → ⊥
refused_one plan b new reached step r s f goes kept stops is =
    let e : None ≡ Some f = sym kept ∙ ap refusal (step_one plan b reached step r new s b goes stops).0 ∙ is in cc

-- some steps, and then the next
split : (plan : Planned) (old new : Board) (list : List WorkerStep) (n : ℕ) (step : WorkerStep) → Plays plan old list new → slice_get list n ≡ Some step
    → (mid : Board) × (after : Board) × Plays plan old (take n list) mid × Goes plan mid step after
split plan old new [] n step plays at = absurd (cc)
split plan old new (first ∷ more) zero step (mid, goes, plays) at =
    let same : first ≡ step = cc in (old, mid, refl, subst (λ x. Goes plan old x mid) same goes)
split plan old new (first ∷ more) (suc n) step (mid, goes, plays) at =
    let rest = split plan mid new more n step plays at in (rest.0, rest.1, (mid, goes, rest.2), rest.3)

by_memory : (plan : Planned) (b after : Board) → Reached plan b → (step : WorkerStep) (f : BoardFault) → Goes plan b step after → Refuses plan b step f → f ≡ faults.Memory
by_memory plan b after reached step (faults.Attempts n) (r, goes, kept) h = absurd (refused_one plan b after reached step r (Attempts n) (faults.Attempts n) goes kept h refl)
by_memory plan b after reached step faults.ClockSpent (r, goes, kept) h = absurd (refused_one plan b after reached step r ClockSpent faults.ClockSpent goes kept h refl)
by_memory plan b after reached step faults.Memory goes h = refl

-- a list that leads to its end stops only if memory runs out
pub plays_or_memory : (plan : Planned) (old new stopped : Board) (list : List WorkerStep) (halt : Halt) → Reached plan old → Plays plan old list new → Halts plan old list halt stopped → halt.fault ≡ faults.Memory
plays_or_memory plan old new stopped list halt reached plays (before, step, at, refuses) =
    let cut = split plan old new list halt.done step plays at in
    let same : cut.0 ≡ stopped = plays_one plan old cut.0 stopped (take halt.done list) reached cut.2 before in
    by_memory plan stopped cut.1 (plays_reached plan old stopped (take halt.done list) reached before) step halt.fault (subst (λ (x : Board). Goes plan x step cut.1) same cut.3) refuses
