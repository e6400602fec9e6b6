-- A step's reply and its board are fixed by the board before it and the call.
use Rattle.std.proofs.Common.{◌≡◌, ℕ, ◌+◌, ◌≤◌, List, [], Option, Some, None, length, slice_get, refl, sym, ap, ap₂, subst, ◌∙◌, ◌⊎◌, inl, inr, arith}
use Rattle.std.proofs.lemmas.Option.{same_Some, slice_get_within}
use Rattle.circ_records.specs.declared.key.Key.{Key}
use Rattle.circ_records.specs.declared.record.Record.{Record}
use Rattle.sip_answer.specs.declared.answer.Answer.{Answer}
use Rattle.read_set.specs.Plans.{Planned}
use Rattle.read_set.specs.Settling.{Contents}
use Rattle.read_set.specs.declared.notes.Name.{Name}
use Rattle.read_set.specs.declared.notes.Note.{Note}
use Rattle.version_store.specs.declared.entry.Found.{Found}
use Rattle.version_store.specs.declared.entry.Found.TheVariants.{Named, Suspect}
use Rattle.board_steps.specs.Board.{State, Board, IsLine, row_at, IsCommitted, holder, value_at, found}
use Rattle.board_steps.specs.Board.State.{Waiting, Running, Placing, Done, Checking, Committed}
use Rattle.board_steps.specs.Reached.{Reached, IsNow}
use Rattle.board_steps.specs.Steps.{Call, Reply, put_row, with_state, MayLook, seen, stopped, MayPublish, Fits, IsNextWrite, AllPlaced, IsNextLeft, NoneLeft, HasRoom, placed, lifted, Compares, Differs, HasNone, failing, marked, MayCommit, TakeStep, LookStep, PublishStep, CheckStep, CommitStep, Step}
use Rattle.board_steps.specs.Steps.Call.{Take, Look, Publish, Check, Commit}
use Rattle.board_steps.specs.Steps.Reply.{Idle, Taken, Seen, Stopped, Stranger, Placed, Lifted, Whole, Same, Changed, Commits, Later, Attempts, ClockSpent}
use Rattle.board_steps.proofs.Entries.{key_order}
use Rattle.board_steps.proofs.Lines.{within_board}

abbrev One : Reply → Board → Reply → Board → Type 0
One r new s other = (r ≡ s) × (new ≡ other)

module _ (b : Board) (w n : ℕ) where
  take_one : (r : Reply) (new : Board) (s : Reply) (other : Board) → TakeStep b w n r new → TakeStep b w n s other → One r new s other
  take_one (Taken a1) new (Taken a2) other g h = (ap Taken (g.2 ∙ sym h.2), g.3 ∙ sym h.3)
  take_one (Taken a1) new (Attempts q) other g h = absurd (omega (arith, g.1, h.1))
  take_one (Taken a1) new Idle other g h = absurd (h.0 g.0)
  take_one (Taken a1) new _ other g h = absurd h
  take_one (Attempts m) new (Taken a2) other g h = absurd (omega (arith, h.1, g.1))
  take_one (Attempts m) new (Attempts q) other g h = (ap Attempts (g.2 ∙ sym h.2), g.3 ∙ sym h.3)
  take_one (Attempts m) new Idle other g h = absurd (h.0 g.0)
  take_one (Attempts m) new _ other g h = absurd h
  take_one Idle new (Taken a2) other g h = absurd (g.0 h.0)
  take_one Idle new (Attempts q) other g h = absurd (g.0 h.0)
  take_one Idle new Idle other g h = (refl, g.1 ∙ sym h.1)
  take_one Idle new _ other g h = absurd h
  take_one _ new s other g h = absurd g

module _ (b : Board) (n : ℕ) where
  not_both : (notes : List Note) (answer : Option Answer) (t : ℕ) → MayCommit b n notes answer t → ((IsLine b n → ⊥) ⊎ IsCommitted (row_at b n).state) → IsLine b n → ⊥
  not_both notes answer t may (inl out) there = out there
  not_both notes answer t may (inr c) lt = subst IsCommitted may.done c

  idle_later : (IsLine b n → ⊥) ⊎ IsCommitted (row_at b n).state → IsLine b n → (IsCommitted (row_at b n).state → ⊥) → ⊥
  idle_later (inl out) there bar = out there
  idle_later (inr c) lt bar = bar c

  same_done : (notes notes' : List Note) (answer answer' : Option Answer) (t t' : Option ℕ) → (row_at b n).state ≡ Done notes answer t → (row_at b n).state ≡ Done notes' answer' t' → answer ≡ answer'
  same_done notes notes' answer answer' t t' e f = (let z : Done notes answer t ≡ Done notes' answer' t' = sym e ∙ f in cc)

  module _ (inside : (notes : List Note) (answer : Option Answer) (t : ℕ) → MayCommit b n notes answer t → IsLine b n) where
    commit_one : (r : Reply) (new : Board) (s : Reply) (other : Board) → CommitStep b n r new → CommitStep b n s other → One r new s other
    commit_one Commits new Commits other g h = (refl, g.4 ∙ ap (λ (a : Option Answer). record (put_row b n (with_state (row_at b n) (Committed a))) { committed = b.committed + 1 }) (same_done g.0 h.0 g.1 h.1 (Some g.2) (Some h.2) g.3.done h.3.done) ∙ sym h.4)
    commit_one Commits new Later other g h = absurd (h.2 g.0 g.1 g.2 g.3)
    commit_one Commits new Idle other g h = absurd (not_both g.0 g.1 g.2 g.3 h.0 (inside g.0 g.1 g.2 g.3))
    commit_one Commits new _ other g h = absurd h
    commit_one Later new Commits other g h = absurd (g.2 h.0 h.1 h.2 h.3)
    commit_one Later new Later other g h = (refl, g.3 ∙ sym h.3)
    commit_one Later new Idle other g h = absurd (idle_later h.0 g.0 g.1)
    commit_one Later new _ other g h = absurd h
    commit_one Idle new Commits other g h = absurd (not_both h.0 h.1 h.2 h.3 g.0 (inside h.0 h.1 h.2 h.3))
    commit_one Idle new Later other g h = absurd (idle_later g.0 h.0 h.1)
    commit_one Idle new Idle other g h = (refl, g.1 ∙ sym h.1)
    commit_one Idle new _ other g h = absurd h
    commit_one _ new s other g h = absurd g

-- a publication of the line in hand
abbrev PublishAt : Board → ℕ → Contents → ℕ → List Note → Reply → Board → Type 0
PublishAt b w v n notes Placed new = Fits b n notes v × (k : Key) × (value : Record) × IsNextWrite (row_at b n) v k value × HasRoom b × (new ≡ placed b w n notes v k)
PublishAt b w v n notes Lifted new = Fits b n notes v × AllPlaced (row_at b n) v × (k : Key) × IsNextLeft (row_at b n) v k × HasRoom b × (new ≡ lifted b w n notes v k)
PublishAt b w v n notes Whole new = Fits b n notes v × AllPlaced (row_at b n) v × NoneLeft (row_at b n) v × (new ≡ put_row b n (with_state (row_at b n) (Done notes v.answer None)))
PublishAt b w v n notes Stranger new = (Fits b n notes v → ⊥) × (new ≡ b)
PublishAt b w v n notes ClockSpent new = Fits b n notes v × (AllPlaced (row_at b n) v → NoneLeft (row_at b n) v → ⊥) × (HasRoom b → ⊥) × (new ≡ b)
PublishAt b w v n notes _ new = ⊥

module _ (b : Board) (w n : ℕ) (v : Contents) (notes : List Note) where
  one_write : (k q : Key) (value other : Record) → IsNextWrite (row_at b n) v k value → IsNextWrite (row_at b n) v q other → k ≡ q
  one_write k q value other g h = elim (key_order k q) [
    | inl e ↦ e
    | inr d ↦ elim d [
      | inl lt ↦ absurd (g.apart (h.least k value lt g.written))
      | inr lt ↦ absurd (h.apart (g.least q other lt h.written))
    ]
  ]

  one_left : (k q : Key) → IsNextLeft (row_at b n) v k → IsNextLeft (row_at b n) v q → k ≡ q
  one_left k q g h = elim (key_order k q) [
    | inl e ↦ e
    | inr d ↦ elim d [
      | inl lt ↦ absurd (g.left.2 (h.least k g.left.0 lt g.left.1))
      | inr lt ↦ absurd (h.left.2 (g.least q h.left.0 lt h.left.1))
    ]
  ]

  publish_at_one : (r : Reply) (new : Board) (s : Reply) (other : Board) → PublishAt b w v n notes r new → PublishAt b w v n notes s other → One r new s other
  publish_at_one Placed new Placed other g h = (refl, g.5 ∙ ap (λ (k : Key). placed b w n notes v k) (one_write g.1 h.1 g.2 h.2 g.3 h.3) ∙ sym h.5)
  publish_at_one Placed new Lifted other g h = absurd (g.3.apart (h.1 g.1 g.2 g.3.written))
  publish_at_one Placed new Whole other g h = absurd (g.3.apart (h.1 g.1 g.2 g.3.written))
  publish_at_one Placed new Stranger other g h = absurd (h.0 g.0)
  publish_at_one Placed new ClockSpent other g h = absurd (h.2 g.4)
  publish_at_one Placed new _ other g h = absurd h
  publish_at_one Lifted new Placed other g h = absurd (h.3.apart (g.1 h.1 h.2 h.3.written))
  publish_at_one Lifted new Lifted other g h = (refl, g.5 ∙ ap (λ (k : Key). lifted b w n notes v k) (one_left g.2 h.2 g.3 h.3) ∙ sym h.5)
  publish_at_one Lifted new Whole other g h = absurd (g.3.left.2 (h.2 g.2 g.3.left.0 g.3.left.1))
  publish_at_one Lifted new Stranger other g h = absurd (h.0 g.0)
  publish_at_one Lifted new ClockSpent other g h = absurd (h.2 g.4)
  publish_at_one Lifted new _ other g h = absurd h
  publish_at_one Whole new Placed other g h = absurd (h.3.apart (g.1 h.1 h.2 h.3.written))
  publish_at_one Whole new Lifted other g h = absurd (h.3.left.2 (g.2 h.2 h.3.left.0 h.3.left.1))
  publish_at_one Whole new Whole other g h = (refl, g.3 ∙ sym h.3)
  publish_at_one Whole new Stranger other g h = absurd (h.0 g.0)
  publish_at_one Whole new ClockSpent other g h = absurd (h.1 g.1 g.2)
  publish_at_one Whole new _ other g h = absurd h
  publish_at_one Stranger new Placed other g h = absurd (g.0 h.0)
  publish_at_one Stranger new Lifted other g h = absurd (g.0 h.0)
  publish_at_one Stranger new Whole other g h = absurd (g.0 h.0)
  publish_at_one Stranger new Stranger other g h = (refl, g.1 ∙ sym h.1)
  publish_at_one Stranger new ClockSpent other g h = absurd (g.0 h.0)
  publish_at_one Stranger new _ other g h = absurd h
  publish_at_one ClockSpent new Placed other g h = absurd (g.2 h.4)
  publish_at_one ClockSpent new Lifted other g h = absurd (g.2 h.4)
  publish_at_one ClockSpent new Whole other g h = absurd (g.1 h.1 h.2)
  publish_at_one ClockSpent new Stranger other g h = absurd (h.0 g.0)
  publish_at_one ClockSpent new ClockSpent other g h = (refl, g.3 ∙ sym h.3)
  publish_at_one ClockSpent new _ other g h = absurd h
  publish_at_one _ new s other g h = absurd g

-- a look by the line in hand
abbrev LookAt : Planned → Board → ℕ → Key → ℕ → List Note → Reply → Board → Type 0
LookAt plan b w k n notes (Seen name value) new = (found (row_at b) n k ≡ Named name) × (value ≡ value_at plan (row_at b) n k) × (new ≡ seen plan b w k n notes name)
LookAt plan b w k n notes (Stopped m) new = (found (row_at b) n k ≡ Suspect m) × (new ≡ stopped b n)
LookAt plan b w k n notes _ new = ⊥

module _ (plan : Planned) (b : Board) (w : ℕ) (k : Key) (n : ℕ) (notes : List Note) where
  one_name : (name other : Name) → found (row_at b) n k ≡ Named name → found (row_at b) n k ≡ Named other → name ≡ other
  one_name name other g h = (let z : Named name ≡ Named other = sym g ∙ h in cc)

  one_suspect : (m q : ℕ) → found (row_at b) n k ≡ Suspect m → found (row_at b) n k ≡ Suspect q → m ≡ q
  one_suspect m q g h = (let z : Suspect m ≡ Suspect q = sym g ∙ h in cc)

  name_or_suspect : (name : Name) (q : ℕ) → found (row_at b) n k ≡ Named name → found (row_at b) n k ≡ Suspect q → ⊥
  name_or_suspect name q g h = (let z : Named name ≡ Suspect q = sym g ∙ h in cc)

  look_at_one : (r : Reply) (new : Board) (s : Reply) (other : Board) → LookAt plan b w k n notes r new → LookAt plan b w k n notes s other → One r new s other
  look_at_one (Seen a1 v1) new (Seen a2 v2) other g h = (ap₂ (λ (x : Name) (y : Option Record). Seen x y) (one_name a1 a2 g.0 h.0) (g.1 ∙ sym h.1), g.2 ∙ ap (λ (x : Name). seen plan b w k n notes x) (one_name a1 a2 g.0 h.0) ∙ sym h.2)
  look_at_one (Seen a1 v1) new (Stopped m2) other g h = absurd (name_or_suspect a1 m2 g.0 h.0)
  look_at_one (Seen a1 v1) new _ other g h = absurd h
  look_at_one (Stopped m1) new (Seen a2 v2) other g h = absurd (name_or_suspect a2 m1 h.0 g.0)
  look_at_one (Stopped m1) new (Stopped m2) other g h = (ap Stopped (one_suspect m1 m2 g.0 h.0), g.1 ∙ sym h.1)
  look_at_one (Stopped m1) new _ other g h = absurd h
  look_at_one _ new s other g h = absurd g

-- a check of the line
abbrev CheckAt : Board → ℕ → ℕ → List Note → Option Answer → ℕ → ℕ → Reply → Board → Type 0
CheckAt b w n notes answer t i Same new =
    (x : Note) × (slice_get notes i ≡ Some x) × IsNow (row_at b) n x × (new ≡ put_row b n (with_state (row_at b n) (Checking w notes answer t (i + 1))))
CheckAt b w n notes answer t i (Changed key noted now) new =
    Differs b n notes i key noted now
    × ((HasNone (row_at b n) × (new ≡ failing (put_row b n (with_state (row_at b n) Waiting))))
    ⊎ ((HasNone (row_at b n) → ⊥) × HasRoom b × (new ≡ marked b n)))
CheckAt b w n notes answer t i Whole new = (length notes ≤ i) × (new ≡ put_row b n (with_state (row_at b n) (Done notes answer (Some t))))
CheckAt b w n notes answer t i ClockSpent new =
    ((key : Key) × (noted : Name) × (now : Found) × Differs b n notes i key noted now) × (HasNone (row_at b n) → ⊥) × (HasRoom b → ⊥) × (new ≡ b)
CheckAt b w n notes answer t i _ new = ⊥

module _ (b : Board) (w n : ℕ) (notes : List Note) (answer : Option Answer) (t i : ℕ) where
  not_now : (x : Note) (key : Key) (noted : Name) (now : Found) → slice_get notes i ≡ Some x → IsNow (row_at b) n x → Differs b n notes i key noted now → ⊥
  not_now x key noted now at is d =
      let y : Note = record { key = key; name = noted; found = d.value } in
      d.other (d.now_is ∙ subst (λ (z : Note). found (row_at b) n z.key ≡ Named z.name) (same_Some x y (sym at ∙ d.note)) is)

  past_all : (x : Note) → slice_get notes i ≡ Some x → length notes ≤ i → ⊥
  past_all x at le = omega (arith, slice_get_within notes i x at)

  differs_past : (key : Key) (noted : Name) (now : Found) → Differs b n notes i key noted now → length notes ≤ i → ⊥
  differs_past key noted now d le = past_all (record { key = key; name = noted; found = d.value }) d.note le

  one_difference : (key key' : Key) (noted noted' : Name) (now now' : Found) → Differs b n notes i key noted now → Differs b n notes i key' noted' now' → Changed key noted now ≡ Changed key' noted' now'
  one_difference key key' noted noted' now now' d e =
      let y : Note = record { key = key; name = noted; found = d.value } in
      let z : Note = record { key = key'; name = noted'; found = e.value } in
      let same : y ≡ z = same_Some y z (sym d.note ∙ e.note) in
      let keys : key ≡ key' = ap (λ (x : Note). x.key) same in
      let names : noted ≡ noted' = ap (λ (x : Note). x.name) same in
      let nows : now ≡ now' = d.now_is ∙ ap (λ x. found (row_at b) n x) keys ∙ sym e.now_is in
      cc

  one_failure : (new other : Board)
      → ((HasNone (row_at b n) × (new ≡ failing (put_row b n (with_state (row_at b n) Waiting))))
      ⊎ ((HasNone (row_at b n) → ⊥) × HasRoom b × (new ≡ marked b n)))
      → ((HasNone (row_at b n) × (other ≡ failing (put_row b n (with_state (row_at b n) Waiting))))
      ⊎ ((HasNone (row_at b n) → ⊥) × HasRoom b × (other ≡ marked b n)))
      → new ≡ other
  one_failure new other (inl g) (inl h) = g.1 ∙ sym h.1
  one_failure new other (inl g) (inr h) = absurd (h.0 g.0)
  one_failure new other (inr g) (inl h) = absurd (g.0 h.0)
  one_failure new other (inr g) (inr h) = g.2 ∙ sym h.2

  spent : {A B : Type 0} → (HasNone (row_at b n) × A) ⊎ ((HasNone (row_at b n) → ⊥) × HasRoom b × B) → (HasNone (row_at b n) → ⊥) → (HasRoom b → ⊥) → ⊥
  spent (inl g) some full = some g.0
  spent (inr g) some full = full g.1

  check_at_one : (r : Reply) (new : Board) (s : Reply) (other : Board) → CheckAt b w n notes answer t i r new → CheckAt b w n notes answer t i s other → One r new s other
  check_at_one Same new Same other g h = (refl, g.3 ∙ sym h.3)
  check_at_one Same new (Changed k2 a2 f2) other g h = absurd (not_now g.0 k2 a2 f2 g.1 g.2 h.0)
  check_at_one Same new Whole other g h = absurd (past_all g.0 g.1 h.0)
  check_at_one Same new ClockSpent other g h = absurd (not_now g.0 h.0.0 h.0.1 h.0.2 g.1 g.2 h.0.3)
  check_at_one Same new _ other g h = absurd h
  check_at_one (Changed k1 a1 f1) new Same other g h = absurd (not_now h.0 k1 a1 f1 h.1 h.2 g.0)
  check_at_one (Changed k1 a1 f1) new (Changed k2 a2 f2) other g h = (one_difference k1 k2 a1 a2 f1 f2 g.0 h.0, one_failure new other g.1 h.1)
  check_at_one (Changed k1 a1 f1) new Whole other g h = absurd (differs_past k1 a1 f1 g.0 h.0)
  check_at_one (Changed k1 a1 f1) new ClockSpent other g h = absurd (spent g.1 h.1 h.2)
  check_at_one (Changed k1 a1 f1) new _ other g h = absurd h
  check_at_one Whole new Same other g h = absurd (past_all h.0 h.1 g.0)
  check_at_one Whole new (Changed k2 a2 f2) other g h = absurd (differs_past k2 a2 f2 h.0 g.0)
  check_at_one Whole new Whole other g h = (refl, g.1 ∙ sym h.1)
  check_at_one Whole new ClockSpent other g h = absurd (differs_past h.0.0 h.0.1 h.0.2 h.0.3 g.0)
  check_at_one Whole new _ other g h = absurd h
  check_at_one ClockSpent new Same other g h = absurd (not_now h.0 g.0.0 g.0.1 g.0.2 h.1 h.2 g.0.3)
  check_at_one ClockSpent new (Changed k2 a2 f2) other g h = absurd (spent h.1 g.1 g.2)
  check_at_one ClockSpent new Whole other g h = absurd (differs_past g.0.0 g.0.1 g.0.2 g.0.3 h.0)
  check_at_one ClockSpent new ClockSpent other g h = (refl, g.3 ∙ sym h.3)
  check_at_one ClockSpent new _ other g h = absurd h
  check_at_one _ new s other g h = absurd g

look_split : (plan : Planned) (b : Board) (w : ℕ) (k : Key) (r : Reply) (new : Board) → LookStep plan b w k r new
    → ((r ≡ Idle) × ((n : ℕ) (notes : List Note) → MayLook b w k n notes → ⊥) × (new ≡ b)) ⊎ ((n : ℕ) × (notes : List Note) × MayLook b w k n notes × LookAt plan b w k n notes r new)
look_split plan b w k (Seen name value) new h = inr (h.0, h.1, h.2, (h.3, h.4, h.5))
look_split plan b w k (Stopped m) new h = inr (h.0, h.1, h.2, (h.3, h.4))
look_split plan b w k Idle new h = inl (refl, h.0, h.1)
look_split plan b w k _ new h = absurd h

publish_split : (b : Board) (w : ℕ) (v : Contents) (r : Reply) (new : Board) → PublishStep b w v r new
    → ((r ≡ Idle) × ((n : ℕ) (notes : List Note) → MayPublish b w n notes → ⊥) × (new ≡ b)) ⊎ ((n : ℕ) × (notes : List Note) × MayPublish b w n notes × PublishAt b w v n notes r new)
publish_split b w v Placed new h = inr (h.0, h.1, h.2, (h.3, h.4, h.5, h.6, h.7, h.8))
publish_split b w v Lifted new h = inr (h.0, h.1, h.2, (h.3, h.4, h.5, h.6, h.7, h.8))
publish_split b w v Whole new h = inr (h.0, h.1, h.2, (h.3, h.4, h.5, h.6))
publish_split b w v Stranger new h = inr (h.0, h.1, h.2, (h.3, h.4))
publish_split b w v ClockSpent new h = inr (h.0, h.1, h.2, (h.3, h.4, h.5, h.6))
publish_split b w v Idle new h = inl (refl, h.0, h.1)
publish_split b w v _ new h = absurd h

check_split : (b : Board) (w n : ℕ) (r : Reply) (new : Board) → CheckStep b w n r new
    → ((r ≡ Idle) × ((notes : List Note) (answer : Option Answer) (t i : ℕ) → Compares b w n notes answer t i → ⊥) × (new ≡ b))
    ⊎ ((notes : List Note) × (answer : Option Answer) × (t : ℕ) × (i : ℕ) × Compares b w n notes answer t i × CheckAt b w n notes answer t i r new)
check_split b w n Same new h = inr (h.0, h.1, h.2, h.3, h.4, (h.5, h.6, h.7, h.8))
check_split b w n (Changed key noted now) new h = inr (h.0, h.1, h.2, h.3, h.4, (h.5, h.6))
check_split b w n Whole new h = inr (h.0, h.1, h.2, h.3, h.4, (h.5, h.6))
check_split b w n ClockSpent new h = inr (h.0, h.1, h.2, h.3, h.4, (h.5, h.6, h.7, h.8))
check_split b w n Idle new h = inl (refl, h.0, h.1)
check_split b w n _ new h = absurd h

module _ (plan : Planned) (b : Board) (ok : Reached plan b) where
  publish_holder : (w n : ℕ) (notes : List Note) → MayPublish b w n notes → holder (row_at b n).state ≡ Some w
  publish_holder w n notes (inl e) = ap holder e
  publish_holder w n notes (inr e) = ap holder e.1

  -- the notes of a line in hand
  notes_in : State → List Note
  notes_in Waiting = []
  notes_in (Running w notes) = notes
  notes_in (Placing w notes last) = notes
  notes_in (Done notes answer stamp) = notes
  notes_in (Checking w notes answer t i) = notes
  notes_in (Committed answer) = []

  publish_notes : (w n : ℕ) (notes : List Note) → MayPublish b w n notes → notes_in (row_at b n).state ≡ notes
  unfolding notes_in
  publish_notes w n notes (inl e) = ap notes_in e
  publish_notes w n notes (inr e) = ap notes_in e.1

  look_notes : (w : ℕ) (k : Key) (n : ℕ) (notes : List Note) → MayLook b w k n notes → notes_in (row_at b n).state ≡ notes
  unfolding notes_in
  look_notes w k n notes may = ap notes_in may.running

  look_one : (w : ℕ) (k : Key) (r : Reply) (new : Board) (s : Reply) (other : Board) → LookStep plan b w k r new → LookStep plan b w k s other → One r new s other
  look_one w k r new s other g h = elim (look_split plan b w k r new g) [
    | inl x ↦ elim (look_split plan b w k s other h) [
      | inl y ↦ (x.0 ∙ sym y.0, x.2 ∙ sym y.2)
      | inr y ↦ absurd (x.1 y.0 y.1 y.2)
    ]
    | inr x ↦ elim (look_split plan b w k s other h) [
      | inl y ↦ absurd (y.1 x.0 x.1 x.2)
      | inr y ↦
          (let rows : y.0 ≡ x.0 = ok.hands y.0 x.0 w (ap holder y.2.running) (ap holder x.2.running) in
          let notes : y.1 ≡ x.1 = sym (look_notes w k y.0 y.1 y.2) ∙ ap (λ q. notes_in (row_at b q).state) rows ∙ look_notes w k x.0 x.1 x.2 in
          look_at_one plan b w k x.0 x.1 r new s other x.3 (subst (λ z. LookAt plan b w k x.0 z s other) notes (subst (λ z. LookAt plan b w k z y.1 s other) rows y.3)))
    ]
  ]

  publish_one : (w : ℕ) (v : Contents) (r : Reply) (new : Board) (s : Reply) (other : Board) → PublishStep b w v r new → PublishStep b w v s other → One r new s other
  publish_one w v r new s other g h = elim (publish_split b w v r new g) [
    | inl x ↦ elim (publish_split b w v s other h) [
      | inl y ↦ (x.0 ∙ sym y.0, x.2 ∙ sym y.2)
      | inr y ↦ absurd (x.1 y.0 y.1 y.2)
    ]
    | inr x ↦ elim (publish_split b w v s other h) [
      | inl y ↦ absurd (y.1 x.0 x.1 x.2)
      | inr y ↦
          (let rows : y.0 ≡ x.0 = ok.hands y.0 x.0 w (publish_holder w y.0 y.1 y.2) (publish_holder w x.0 x.1 x.2) in
          let notes : y.1 ≡ x.1 = sym (publish_notes w y.0 y.1 y.2) ∙ ap (λ q. notes_in (row_at b q).state) rows ∙ publish_notes w x.0 x.1 x.2 in
          publish_at_one b w x.0 v x.1 r new s other x.3 (subst (λ z. PublishAt b w v x.0 z s other) notes (subst (λ z. PublishAt b w v z y.1 s other) rows y.3)))
    ]
  ]

  abbrev All_same : List Note → Option Answer → ℕ → ℕ → List Note → Option Answer → ℕ → ℕ → Type 0
  All_same notes answer t i notes' answer' t' i' = (notes' ≡ notes) × (answer' ≡ answer) × (t' ≡ t) × (i' ≡ i)

  compares_one : (w n : ℕ) (notes notes' : List Note) (answer answer' : Option Answer) (t t' i i' : ℕ) → Compares b w n notes answer t i → Compares b w n notes' answer' t' i' → All_same notes answer t i notes' answer' t' i'
  compares_one w n notes notes' answer answer' t t' i i' (inl c) (inl d) =
      (let z : Done notes' answer' d.1.0 ≡ Done notes answer c.1.0 = sym d.1.1 ∙ c.1.1 in (cc, cc, d.2 ∙ sym c.2, d.3 ∙ sym c.3))
  compares_one w n notes notes' answer answer' t t' i i' (inl c) (inr d) =
      (let z : Done notes answer c.1.0 ≡ Checking w notes' answer' t' i' = sym c.1.1 ∙ d in absurd (cc))
  compares_one w n notes notes' answer answer' t t' i i' (inr c) (inl d) =
      (let z : Done notes' answer' d.1.0 ≡ Checking w notes answer t i = sym d.1.1 ∙ c in absurd (cc))
  compares_one w n notes notes' answer answer' t t' i i' (inr c) (inr d) =
      (let z : Checking w notes' answer' t' i' ≡ Checking w notes answer t i = sym d ∙ c in (cc, cc, cc, cc))

  check_one : (w n : ℕ) (r : Reply) (new : Board) (s : Reply) (other : Board) → CheckStep b w n r new → CheckStep b w n s other → One r new s other
  check_one w n r new s other g h = elim (check_split b w n r new g) [
    | inl x ↦ elim (check_split b w n s other h) [
      | inl y ↦ (x.0 ∙ sym y.0, x.2 ∙ sym y.2)
      | inr y ↦ absurd (x.1 y.0 y.1 y.2 y.3 y.4)
    ]
    | inr x ↦ elim (check_split b w n s other h) [
      | inl y ↦ absurd (y.1 x.0 x.1 x.2 x.3 x.4)
      | inr y ↦
          (let e = compares_one w n x.0 y.0 x.1 y.1 x.2 y.2 x.3 y.3 x.4 y.4 in
          check_at_one b w n x.0 x.1 x.2 x.3 r new s other x.5
          (subst (λ z. CheckAt b w n x.0 x.1 x.2 z s other) e.3
          (subst (λ z. CheckAt b w n x.0 x.1 z y.3 s other) e.2
          (subst (λ z. CheckAt b w n x.0 z y.2 y.3 s other) e.1
          (subst (λ z. CheckAt b w n z y.1 y.2 y.3 s other) e.0 y.5)))))
    ]
  ]

  inside_commit : (n : ℕ) (notes : List Note) (answer : Option Answer) (t : ℕ) → MayCommit b n notes answer t → IsLine b n
  inside_commit n notes answer t may = within_board b n (λ e. let z : Done notes answer (Some t) ≡ Waiting = sym may.done ∙ e in cc)

  pub determined : (call : Call) (r : Reply) (new : Board) (s : Reply) (other : Board) → Step plan b call r new → Step plan b call s other → (r ≡ s) × (new ≡ other)
  determined (Take w n) r new s other g h = take_one b w n r new s other g h
  determined (Look w k) r new s other g h = look_one w k r new s other g h
  determined (Publish w v) r new s other g h = publish_one w v r new s other g h
  determined (Check w n) r new s other g h = check_one w n r new s other g h
  determined (Commit n) r new s other g h = commit_one b n (inside_commit n) r new s other g h
