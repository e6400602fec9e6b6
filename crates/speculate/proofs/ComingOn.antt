-- If no worker has a line in hand, a free worker's choice brings a line on.
use Rattle.std.proofs.Common.{◌≡◌, ℕ, zero, suc, ◌+◌, ◌<◌, ◌≤◌, ◌⊎◌, List, [], Option, Some, None, refl, sym, ap, subst, ◌∙◌, inl, inr, arith}
use Rattle.std.proofs.lemmas.Bool.{cases_eq, cases_lt}
use Rattle.std.proofs.lemmas.Option.{none-some}
use Rattle.sip_answer.specs.declared.answer.Answer.{Answer}
use Rattle.read_set.specs.Plans.{Planned}
use Rattle.read_set.specs.declared.notes.Note.{Note}
use Rattle.board_steps.specs.Board.{Board, IsCommitted, IsLine, Row, State, holder, row_at}
use Rattle.board_steps.specs.Board.State.{Waiting, Running, Placing, Done, Checking, Committed}
use Rattle.board_steps.specs.Choice.{CanCommit, Choice, IsChoice, NeedsCheck, NoneFits, StampCounts, Waits as IsWaiting}
use Rattle.board_steps.specs.Choice.Choice.{ToCommit, ToCheck, ToTake, ToWait, ToEnd}
use Rattle.board_steps.specs.Reached.{Reached}
use Rattle.board_steps.specs.Steps.{Call, CheckStep, CommitStep, Compares, IsFree, Reply, SendsBack, Step, TakeStep, put_row, with_state}
use Rattle.board_steps.specs.Steps.Call.{Take, Check, Commit}
use Rattle.board_steps.specs.Steps.Reply.{Idle, Taken, Whole, Same, Changed, Commits, Later, Attempts, ClockSpent}
use Rattle.board_steps.proofs.Lines.{row_put, row_put_off, within_board}
use Rattle.speculate.specs.ComingOn.{ComesOn, IsSpent, Names, NoneInHand}
use Rattle.speculate.specs.Marks.{HasTurned, IsStill}

-- no line below has changed since a stamp, or one has
still_or_turned : (rows : ℕ → Row) (n t : ℕ) → IsStill rows n t ⊎ HasTurned rows n t
still_or_turned rows zero t = inl (λ m lt. absurd (omega (arith, lt)))
still_or_turned rows (suc n) t = elim (cases_lt t (rows n).changed) [
  | inl more ↦ inr (n, omega arith, more)
  | inr le ↦ elim (still_or_turned rows n t) [
    | inl still ↦ inl (λ m lt. elim (cases_eq m n) [
      | inl e ↦ subst (λ x. (rows x).changed ≤ t) (sym e) le
      | inr ne ↦ still m (omega (arith, lt, ne))
    ])
    | inr turned ↦ inr (turned.0, omega (arith, turned.1), turned.2)
  ]
]

module _ (plan : Planned) (b : Board) (ok : Reached plan b) (none : NoneInHand b) where
  -- ---- a call is named
  stands : (q : ℕ) → IsLine b q → ((m : ℕ) → b.first ≤ m → m < q → IsCommitted (row_at b m).state) → NoneFits (CanCommit b) → NoneFits (NeedsCheck (row_at b)) → NoneFits (IsWaiting b)
      → (s : State) → (row_at b q).state ≡ s → (IsCommitted s → ⊥) → ⊥
  stands q there below commits checks waits Waiting is uncommitted = waits q (there, is)
  stands q there below commits checks waits (Running w notes) is uncommitted = none w q (ap holder is)
  stands q there below commits checks waits (Placing w notes last) is uncommitted = none w q (ap holder is)
  stands q there below commits checks waits (Done notes answer None) is uncommitted = checks q (notes, answer, None, is, λ t e. absurd (none-some t e))
  stands q there below commits checks waits (Done notes answer (Some t)) is uncommitted = elim (still_or_turned (row_at b) q t) [
    | inl still ↦ commits q (notes, answer, t, record { below = below; done = is; unchanged = still })
    | inr turned ↦ checks q (notes, answer, Some t, is, λ u e. (let same : t ≡ u = cc in subst (λ x. HasTurned (row_at b) q x) same turned))
  ]
  stands q there below commits checks waits (Checking w notes answer t i) is uncommitted = none w q (ap holder is)
  stands q there below commits checks waits (Committed answer) is uncommitted = uncommitted tt

  -- the least line that isn't committed
  least_open : (m : ℕ) → IsLine b m → (IsCommitted (row_at b m).state → ⊥) → IsLine b (b.first + b.committed)
  least_open m there uncommitted = elim (cases_lt m (b.first + b.committed)) [
    | inl lt ↦ absurd (uncommitted (ok.rows.first m (omega (arith, there.0, ok.first)) (omega (arith, lt, ok.first))))
    | inr ge ↦ (omega arith, omega (arith, ge, there.1))
  ]

  never_waits : (m : ℕ) → IsLine b m → (IsCommitted (row_at b m).state → ⊥) → IsChoice b ToWait → ⊥
  never_waits m there uncommitted (commits, checks, waits, rest) =
      let q : ℕ = b.first + b.committed in
      stands q (least_open m there uncommitted) (λ j from lt. ok.rows.first j (omega (arith, from, ok.first)) (omega (arith, lt, ok.first)))
      commits checks waits (row_at b q).state refl (λ h. let l = ok.rows.only q h in omega (arith, l, ok.first))

  pub names_a_call : (m : ℕ) → IsLine b m → (IsCommitted (row_at b m).state → ⊥) → (choice : Choice) → IsChoice b choice → (w : ℕ) → (n : ℕ) × (call : Call) × Names choice w n call
  names_a_call m there uncommitted (ToCommit n) is w = (n, Commit n, (refl, refl))
  names_a_call m there uncommitted (ToCheck n) is w = (n, Check w n, (refl, refl))
  names_a_call m there uncommitted (ToTake n) is w = (n, Take w n, (refl, refl))
  names_a_call m there uncommitted ToWait is w = absurd (never_waits m there uncommitted is)
  names_a_call m there uncommitted ToEnd is w = absurd (uncommitted (is m there))

  -- ---- and brings its line on
  state_put : (n : ℕ) (r : Row) → IsLine b n → (new : Board) → row_at new n ≡ row_at (put_row b n r) n → (row_at new n).state ≡ r.state
  state_put n r there new e = ap (λ (l : Row). l.state) (e ∙ row_put b n r there)

  free : (w : ℕ) → w < b.workers → IsFree b w
  free w lt = (lt, none w)

  done_there : (n : ℕ) (notes : List Note) (answer : Option Answer) (stamp : Option ℕ) → (row_at b n).state ≡ Done notes answer stamp → IsLine b n
  done_there n notes answer stamp is = within_board b n (λ d. let z : Done notes answer stamp ≡ Waiting = sym is ∙ d in cc)

  now : (w n : ℕ) (notes : List Note) (answer : Option Answer) (t i : ℕ) → Compares b w n notes answer t i → t ≡ b.clock
  now w n notes answer t i (inl c) = c.2
  now w n notes answer t i (inr is) = absurd (none w n (ap holder is))

  checked : (w n : ℕ) (notes : List Note) (answer : Option Answer) (t i : ℕ) (new : Board) → IsLine b n → Compares b w n notes answer t i
      → new ≡ put_row b n (with_state (row_at b n) (Done notes answer (Some t))) → StampCounts (row_at new) n
  checked w n notes answer t i new there compares e =
      let r : Row = with_state (row_at b n) (Done notes answer (Some t)) in (
        notes,
        answer,
        t,
        state_put n r there new (ap (λ (x : Board). row_at x n) e),
        λ m lt.
            let off : row_at new m ≡ row_at b m = ap (λ (x : Board). row_at x m) e ∙ row_put_off b n r m (λ q. omega (arith, q, lt)) in
            omega (arith, ap (λ (l : Row). l.changed) off, (ok.rows.each m).past, now w n notes answer t i compares),
      )

  check_comes : (w n : ℕ) (reply : Reply) (new : Board) → w < b.workers → NeedsCheck (row_at b) n → CheckStep b w n reply new → ComesOn b w n (Check w n) reply new ⊎ IsSpent n reply
  check_comes w n Same new lt needs h =
      inl (inl (ap holder (state_put n (with_state (row_at b n) (Checking w h.0 h.1 h.2 (h.3 + 1))) (done_there n needs.0 needs.1 needs.2 needs.3) new (ap (λ (x : Board). row_at x n) h.8))))
  check_comes w n Whole new lt needs h = inl (inr (inr (inl (checked w n h.0 h.1 h.2 h.3 new (done_there n needs.0 needs.1 needs.2 needs.3) h.4 h.6))))
  check_comes w n (Changed key noted found) new lt needs h =
      let there = done_there n needs.0 needs.1 needs.2 needs.3 in
      let back : SendsBack b n (Check w n) (Changed key noted found) = (refl, h.0, h.1, h.2, h.3, h.4, h.5) in
      elim h.6 [
        | inl g ↦ inl (inr (inr (inr (state_put n _ there new (ap (λ (x : Board). row_at x n) g.1), back))))
        | inr g ↦ inl (inr (inr (inr (state_put n _ there new (ap (λ (x : Board). row_at x n) g.2), back))))
      ]
  check_comes w n ClockSpent new lt needs h = inr (inr refl)
  check_comes w n Idle new lt needs h = absurd (h.0 needs.0 needs.1 b.clock 0 (inl (free w lt, (needs.2, needs.3), refl, refl)))
  check_comes w n _ new lt needs h = absurd h

  take_comes : (w n : ℕ) (reply : Reply) (new : Board) → w < b.workers → IsWaiting b n → TakeStep b w n reply new → ComesOn b w n (Take w n) reply new ⊎ IsSpent n reply
  take_comes w n (Taken a) new lt waits h =
      inl (inl (ap holder (state_put n (record (row_at b n) { state = Running w []; next = (row_at b n).next + 1 }) waits.0 new (ap (λ (x : Board). row_at x n) h.3))))
  take_comes w n (Attempts m) new lt waits h = inr (inl (ap Attempts h.2))
  take_comes w n Idle new lt waits h = absurd (h.0 (record { within = waits.0; free = free w lt; waiting = waits.1 }))
  take_comes w n _ new lt waits h = absurd h

  commit_comes : (w n : ℕ) (reply : Reply) (new : Board) → CanCommit b n → CommitStep b n reply new → ComesOn b w n (Commit n) reply new ⊎ IsSpent n reply
  commit_comes w n Commits new may h =
      inl (inr (inl (subst IsCommitted (sym (state_put n (with_state (row_at b n) (Committed h.1)) (done_there n may.0 may.1 (Some may.2) may.3.done) new (ap (λ (x : Board). row_at x n) h.4))) tt)))
  commit_comes w n Later new may h = absurd (h.2 may.0 may.1 may.2 may.3)
  commit_comes w n Idle new may h = elim h.0 [
    | inl not ↦ absurd (not (done_there n may.0 may.1 (Some may.2) may.3.done))
    | inr is ↦ absurd (subst IsCommitted may.3.done is)
  ]
  commit_comes w n _ new may h = absurd h

  step_is : (old new : Board) (call other : Call) (reply : Reply) → call ≡ other → Step plan old call reply new → Step plan old other reply new
  step_is old new call other reply e h = subst (λ c. Step plan old c reply new) e h

  comes_by : (w n : ℕ) (new : Board) (call other : Call) (reply : Reply) → call ≡ other → ComesOn b w n other reply new ⊎ IsSpent n reply → ComesOn b w n call reply new ⊎ IsSpent n reply
  comes_by w n new call other reply e h = subst (λ c. ComesOn b w n c reply new ⊎ IsSpent n reply) (sym e) h

  pub comes_on : (choice : Choice) → IsChoice b choice → (w n : ℕ) (call : Call) (reply : Reply) (new : Board) → w < b.workers → Names choice w n call → Step plan b call reply new → ComesOn b w n call reply new ⊎ IsSpent n reply
  comes_on (ToCommit line) is w n call reply new lt names h =
      comes_by w n new call (Commit n) reply names.1 (commit_comes w n reply new (subst (CanCommit b) names.0 is) (step_is b new call (Commit n) reply names.1 h))
  comes_on (ToCheck line) is w n call reply new lt names h =
      comes_by w n new call (Check w n) reply names.1 (check_comes w n reply new lt (subst (NeedsCheck (row_at b)) names.0 is.1.0) (step_is b new call (Check w n) reply names.1 h))
  comes_on (ToTake line) is w n call reply new lt names h =
      comes_by w n new call (Take w n) reply names.1 (take_comes w n reply new lt (subst (IsWaiting b) names.0 is.2.0) (step_is b new call (Take w n) reply names.1 h))
  comes_on ToWait is w n call reply new lt names h = absurd names
  comes_on ToEnd is w n call reply new lt names h = absurd names
