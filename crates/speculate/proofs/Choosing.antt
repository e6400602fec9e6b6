-- The choice of a free worker, as the sets give it.
use Rattle.std.proofs.Common.{◌≡◌, ℕ, ◌+◌, ◌-◌, ◌<◌, ◌≤◌, Bool, true, false, List, length, Option, Some, None, refl, sym, ap, subst, ◌∙◌, inl, inr, arith}
use Rattle.std.proofs.lemmas.Bool.{cases_lt}
use Rattle.sip_answer.specs.declared.answer.Answer.{Answer}
use Rattle.read_set.specs.Plans.{Planned}
use Rattle.read_set.specs.declared.notes.Note.{Note}
use Rattle.board_steps.specs.Board.{State, Row, Board, IsLine, IsCommitted, row_at}
use Rattle.board_steps.specs.Board.State.{Waiting, Running, Placing, Done, Checking, Committed}
use Rattle.board_steps.specs.Choice.{NeedsCheck, CanCommit, Waits, NoneFits, IsChoice}
use Rattle.board_steps.specs.Choice.Choice.{ToCommit, ToCheck, ToTake, ToWait, ToEnd}
use Rattle.board_steps.specs.Reached.{Reached}
use Rattle.speculate.specs.declared.ready.Mark.{Mark}
use Rattle.speculate.specs.declared.ready.Ready.{Ready}
use Rattle.speculate.specs.Marks.{Fits, IsStill, HasTurned, IsMarked, IsReady, waits, is_unchecked, is_checked, has_position}
use Rattle.speculate.specs.Trees.{IsLeastFrom}
use Rattle.speculate.proofs.Flags.{position_within}
use Rattle.speculate.proofs.Calling.{line_done}

-- ---- what a mark says
mark_waits : (rows : ℕ → Row) (n : ℕ) (s : State) (mark : Mark) → Fits rows n s mark → waits mark ≡ true → s ≡ Waiting
mark_waits rows n Waiting mark h e = refl
mark_waits rows n (Running w notes) mark h e = absurd (let z : false ≡ true = sym (ap waits h) ∙ e in cc)
mark_waits rows n (Placing w notes last) mark h e = absurd (let z : false ≡ true = sym (ap waits h) ∙ e in cc)
mark_waits rows n (Done notes answer None) mark h e = absurd (let z : false ≡ true = sym (ap waits h) ∙ e in cc)
mark_waits rows n (Done notes answer (Some t)) mark h e = elim h [
  | inl x ↦ absurd (let z : false ≡ true = sym (ap waits x.0) ∙ e in cc)
  | inr x ↦ absurd (let z : false ≡ true = sym (ap waits x.0) ∙ e in cc)
]
mark_waits rows n (Checking w notes answer t i) mark h e = elim h [
  | inl x ↦ absurd (let z : false ≡ true = sym (ap waits x.0) ∙ e in cc)
  | inr x ↦ absurd (let z : false ≡ true = sym (ap waits x.0) ∙ e in cc)
]
mark_waits rows n (Committed answer) mark h e = absurd (let z : false ≡ true = sym (ap waits h) ∙ e in cc)

-- a stamp that is missing counts no more
abbrev pub NeedsIn : (ℕ → Row) → ℕ → State → Type 0
NeedsIn rows n s = (notes : List Note) × (answer : Option Answer) × (stamp : Option ℕ) × (s ≡ Done notes answer stamp) × ((t : ℕ) → stamp ≡ Some t → HasTurned rows n t)

mark_unchecked : (rows : ℕ → Row) (n : ℕ) (s : State) (mark : Mark) → Fits rows n s mark → is_unchecked mark ≡ true → NeedsIn rows n s
mark_unchecked rows n Waiting mark h e = absurd (let z : false ≡ true = sym (ap is_unchecked h) ∙ e in cc)
mark_unchecked rows n (Running w notes) mark h e = absurd (let z : false ≡ true = sym (ap is_unchecked h) ∙ e in cc)
mark_unchecked rows n (Placing w notes last) mark h e = absurd (let z : false ≡ true = sym (ap is_unchecked h) ∙ e in cc)
mark_unchecked rows n (Done notes answer None) mark h e = (notes, answer, None, refl, λ t x. absurd (cc))
mark_unchecked rows n (Done notes answer (Some t)) mark h e = elim h [
  | inl x ↦ absurd (let z : false ≡ true = sym (ap is_unchecked x.0) ∙ e in cc)
  | inr x ↦ (notes, answer, Some t, refl, λ u y. (let same : t ≡ u = cc in subst (HasTurned rows n) same x.1))
]
mark_unchecked rows n (Checking w notes answer t i) mark h e = elim h [
  | inl x ↦ absurd (let z : false ≡ true = sym (ap is_unchecked x.0) ∙ e in cc)
  | inr x ↦ absurd (let z : false ≡ true = sym (ap is_unchecked x.0) ∙ e in cc)
]
mark_unchecked rows n (Committed answer) mark h e = absurd (let z : false ≡ true = sym (ap is_unchecked h) ∙ e in cc)

abbrev pub CheckedIn : (ℕ → Row) → ℕ → State → Type 0
CheckedIn rows n s = (notes : List Note) × (answer : Option Answer) × (t : ℕ) × (s ≡ Done notes answer (Some t)) × IsStill rows n t

mark_checked : (rows : ℕ → Row) (n : ℕ) (s : State) (mark : Mark) → Fits rows n s mark → is_checked mark ≡ true → CheckedIn rows n s
mark_checked rows n Waiting mark h e = absurd (let z : false ≡ true = sym (ap is_checked h) ∙ e in cc)
mark_checked rows n (Running w notes) mark h e = absurd (let z : false ≡ true = sym (ap is_checked h) ∙ e in cc)
mark_checked rows n (Placing w notes last) mark h e = absurd (let z : false ≡ true = sym (ap is_checked h) ∙ e in cc)
mark_checked rows n (Done notes answer None) mark h e = absurd (let z : false ≡ true = sym (ap is_checked h) ∙ e in cc)
mark_checked rows n (Done notes answer (Some t)) mark h e = elim h [
  | inl x ↦ (notes, answer, t, refl, x.1)
  | inr x ↦ absurd (let z : false ≡ true = sym (ap is_checked x.0) ∙ e in cc)
]
mark_checked rows n (Checking w notes answer t i) mark h e = elim h [
  | inl x ↦ absurd (let z : false ≡ true = sym (ap is_checked x.0) ∙ e in cc)
  | inr x ↦ absurd (let z : false ≡ true = sym (ap is_checked x.0) ∙ e in cc)
]
mark_checked rows n (Committed answer) mark h e = absurd (let z : false ≡ true = sym (ap is_checked h) ∙ e in cc)

-- ---- and what a state says of its mark
waits_mark : (rows : ℕ → Row) (n : ℕ) (mark : Mark) → Fits rows n Waiting mark → waits mark ≡ true
waits_mark rows n mark h = ap waits h

needs_mark : (rows : ℕ → Row) (n : ℕ) (notes : List Note) (answer : Option Answer) (stamp : Option ℕ) (mark : Mark) → ((t : ℕ) → stamp ≡ Some t → HasTurned rows n t)
    → Fits rows n (Done notes answer stamp) mark → is_unchecked mark ≡ true
needs_mark rows n notes answer None mark turned h = ap is_unchecked h
needs_mark rows n notes answer (Some t) mark turned h = elim h [
  | inl x ↦ absurd (let y = turned t refl in omega (arith, x.1 y.0 y.1, y.2))
  | inr x ↦ ap is_unchecked x.0
]

counts_mark : (rows : ℕ → Row) (n : ℕ) (notes : List Note) (answer : Option Answer) (t : ℕ) (mark : Mark) → IsStill rows n t
    → Fits rows n (Done notes answer (Some t)) mark → is_checked mark ≡ true
counts_mark rows n notes answer t mark still h = elim h [
  | inl x ↦ ap is_checked x.0
  | inr x ↦ absurd (omega (arith, still x.1.0 x.1.1, x.1.2))
]

module _ (plan : Planned) (b : Board) (r : Ready) (ok : Reached plan b) (ready : IsReady b r) where
  -- a line by its position
  place_line : (p : ℕ) → p < length b.rows → IsLine b (b.first + p)
  place_line p lt = (omega arith, omega (arith, lt))

  mark_at : (n : ℕ) → IsLine b n → (mark : Mark) × Fits (row_at b) n (row_at b n).state mark × IsMarked r (n - b.first) mark
  mark_at n there = ready.each n there

  place_back : (p : ℕ) → (b.first + p) - b.first ≡ p
  place_back p = omega arith

  -- ---- from the sets
  pub place_waits : (p : ℕ) → has_position r.waiting p ≡ true → Waits b (b.first + p)
  place_waits p h =
      let there = place_line p (omega (arith, position_within r.waiting p h, ready.positions.of_waiting)) in
      let x = mark_at (b.first + p) there in
      (there, mark_waits (row_at b) (b.first + p) (row_at b (b.first + p)).state x.0 x.1 (sym x.2.in_waiting ∙ ap (has_position r.waiting) (place_back p) ∙ h))

  pub place_needs : (p : ℕ) → has_position r.unchecked p ≡ true → NeedsCheck (row_at b) (b.first + p)
  place_needs p h =
      let there = place_line p (omega (arith, position_within r.unchecked p h, ready.positions.of_unchecked)) in
      let x = mark_at (b.first + p) there in
      mark_unchecked (row_at b) (b.first + p) (row_at b (b.first + p)).state x.0 x.1 (sym x.2.in_unchecked ∙ ap (has_position r.unchecked) (place_back p) ∙ h)

  pub place_counts : (p : ℕ) → has_position r.checked p ≡ true → CheckedIn (row_at b) (b.first + p) (row_at b (b.first + p)).state
  place_counts p h =
      let there = place_line p (omega (arith, position_within r.checked p h, ready.positions.of_checked)) in
      let x = mark_at (b.first + p) there in
      mark_checked (row_at b) (b.first + p) (row_at b (b.first + p)).state x.0 x.1 (sym x.2.in_checked ∙ ap (has_position r.checked) (place_back p) ∙ h)

  -- ---- to the sets
  pub waits_place : (n : ℕ) → Waits b n → has_position r.waiting (n - b.first) ≡ true
  waits_place n h =
      let x = mark_at n h.0 in
      x.2.in_waiting ∙ waits_mark (row_at b) n x.0 (subst (λ s. Fits (row_at b) n s x.0) h.1 x.1)

  pub needs_place : (n : ℕ) → NeedsCheck (row_at b) n → IsLine b n × (has_position r.unchecked (n - b.first) ≡ true)
  needs_place n h =
      let there = line_done b n h.0 h.1 h.2 h.3 in
      let x = mark_at n there in
      (there, x.2.in_unchecked ∙ needs_mark (row_at b) n h.0 h.1 h.2 x.0 h.4 (subst (λ s. Fits (row_at b) n s x.0) h.3 x.1))

  -- ---- the least line that isn't committed
  pub next_line : (n : ℕ) → CanCommit b n → n ≡ b.first + b.committed
  next_line n h =
      let may = h.3 in
      let there = line_done b n h.0 h.1 (Some h.2) may.done in
      elim (cases_lt n (b.first + b.committed)) [
        | inl lt ↦ absurd (subst IsCommitted may.done (ok.rows.first n (omega (arith, there.0, ok.first)) (omega (arith, lt, ok.first))))
        | inr ge ↦ elim (cases_lt (b.first + b.committed) n) [
          | inl more ↦ absurd (let l = ok.rows.only (b.first + b.committed) (may.below (b.first + b.committed) (omega arith) more) in omega (arith, l, ok.first))
          | inr le ↦ omega (arith, ge, le)
        ]
      ]

  pub commit_place : (n : ℕ) → CanCommit b n → has_position r.checked b.committed ≡ true
  commit_place n h =
      let may = h.3 in
      let there = line_done b n h.0 h.1 (Some h.2) may.done in
      let x = mark_at n there in
      let at : n - b.first ≡ b.committed = omega (arith, next_line n h) in
      ap (has_position r.checked) (sym at) ∙ x.2.in_checked ∙ counts_mark (row_at b) n h.0 h.1 h.2 x.0 may.unchanged (subst (λ s. Fits (row_at b) n s x.0) may.done x.1)

  -- the committed lines come first
  open_line : (n : ℕ) → IsLine b n → (IsCommitted (row_at b n).state → ⊥) → b.committed ≤ n - b.first
  open_line n there rest = elim (cases_lt n (b.first + b.committed)) [
    | inl lt ↦ absurd (rest (ok.rows.first n (omega (arith, there.0, ok.first)) (omega (arith, lt, ok.first))))
    | inr ge ↦ omega (arith, ge)
  ]

  open_needs : (n : ℕ) → IsLine b n → NeedsCheck (row_at b) n → b.committed ≤ n - b.first
  open_needs n there needs = open_line n there (λ h. subst IsCommitted needs.3 h)

  open_waits : (n : ℕ) → Waits b n → b.committed ≤ n - b.first
  open_waits n wait = open_line n wait.0 (λ h. subst IsCommitted wait.1 h)

  not_both : (c : Bool) → c ≡ true → c ≡ false → ⊥
  not_both c h e = (let z : true ≡ false = sym h ∙ e in cc)

  -- ---- the five choices
  pub ends : length plan.readings ≤ b.committed → IsChoice b ToEnd
  ends all m there = ok.rows.first m (omega (arith, there.0, ok.first)) (omega (arith, there.1, all, ok.all, ok.first))

  pub commits : has_position r.checked b.committed ≡ true → IsChoice b (ToCommit (b.first + b.committed))
  commits h =
      let x = place_counts b.committed h in (
        x.0,
        x.1,
        x.2,
        record {
          below = λ m le lt. ok.rows.first m (omega (arith, le, ok.first)) (omega (arith, lt, ok.first));
          done = x.3;
          unchanged = x.4;
        },
      )

  none_commits : has_position r.checked b.committed ≡ false → NoneFits (CanCommit b)
  none_commits h m may = not_both (has_position r.checked b.committed) (commit_place m may) h

  pub checks : (p : ℕ) → has_position r.checked b.committed ≡ false → IsLeastFrom r.unchecked b.committed (Some p) → IsChoice b (ToCheck (b.first + p))
  checks p none least = (
    none_commits none,
    (
      place_needs p least.1,
      λ m lt needs. (let x = needs_place m needs in
          not_both (has_position r.unchecked (m - b.first)) x.1 (least.2 (m - b.first) (open_needs m x.0 needs) (omega (arith, lt, x.0.0)))),
    ),
  )

  none_needs : IsLeastFrom r.unchecked b.committed None → NoneFits (NeedsCheck (row_at b))
  none_needs none m needs = (let x = needs_place m needs in not_both (has_position r.unchecked (m - b.first)) x.1 (none (m - b.first) (open_needs m x.0 needs)))

  pub takes : (p : ℕ) → has_position r.checked b.committed ≡ false → IsLeastFrom r.unchecked b.committed None → IsLeastFrom r.waiting b.committed (Some p) → IsChoice b (ToTake (b.first + p))
  takes p none needless least = (
    none_commits none,
    none_needs needless,
    (place_waits p least.1, λ m lt wait. not_both (has_position r.waiting (m - b.first)) (waits_place m wait) (least.2 (m - b.first) (open_waits m wait) (omega (arith, lt, wait.0.0)))),
  )

  pub waits_for_others : b.committed < length plan.readings → has_position r.checked b.committed ≡ false → IsLeastFrom r.unchecked b.committed None → IsLeastFrom r.waiting b.committed None → IsChoice b ToWait
  waits_for_others more none needless waitless = (
    none_commits none,
    none_needs needless,
    λ m wait. not_both (has_position r.waiting (m - b.first)) (waits_place m wait) (waitless (m - b.first) (open_waits m wait)),
    (b.first + b.committed, (omega arith, omega (arith, more, ok.all)), λ h. (let l = ok.rows.only (b.first + b.committed) h in omega (arith, l, ok.first))),
  )
