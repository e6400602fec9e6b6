-- What no step changes: committed lines; and which steps send a line back.
use Rattle.std.proofs.Common.{◌≡◌, ◌≢◌, ℕ, ◌-◌, cond, List, Option, length, set, get_or, sym, ap, subst, ◌∙◌, refl, ◌⊎◌, inl, inr, arith, length-set}
use Rattle.std.proofs.lemmas.Bool.{cases_eq, cases_lt, le-ltb}
use Rattle.std.proofs.lemmas.List.{get_or_past}
use Rattle.circ_records.specs.declared.key.Key.{Key}
use Rattle.sip_answer.specs.declared.answer.Answer.{Answer}
use Rattle.read_set.specs.Plans.{Planned}
use Rattle.read_set.specs.Settling.{Contents}
use Rattle.read_set.specs.declared.notes.Name.{Name}
use Rattle.read_set.specs.declared.notes.Note.{Note}
use Rattle.version_store.specs.declared.entry.Found.{Found}
use Rattle.version_store.specs.declared.entry.Found.TheVariants.{Suspect}
use Rattle.board_steps.specs.Board.{Row, Board, blank, row_at, found, IsCommitted}
use Rattle.board_steps.specs.Board.State.{Waiting}
use Rattle.board_steps.specs.Steps.{Call, Reply, put_row, MayLook, MayPublish, Compares, Differs, TakeStep, LookStep, PublishStep, CheckStep, CommitStep, Step, SendsBack}
use Rattle.board_steps.specs.Steps.Call.{Take, Look, Publish, Check, Commit}
use Rattle.board_steps.specs.Steps.Reply.{Idle, Taken, Seen, Stopped, Stranger, Placed, Lifted, Whole, Same, Changed, Commits, Later, Attempts, ClockSpent}
use Rattle.board_steps.proofs.Lines.{row_before, row_from, row_put, row_put_off}

-- the line that is put has the state, or it is past the last one
put_here : (b : Board) (n : ℕ) (r : Row) → (row_at (put_row b n r) n ≡ r) ⊎ (row_at (put_row b n r) n ≡ row_at b n)
put_here b n r = elim (cases_lt n b.first) [
  | inl before ↦ inr (row_before (put_row b n r) n before ∙ sym (row_before b n before))
  | inr from ↦ elim (cases_lt (n - b.first) (length b.rows)) [
    | inl within ↦ inl (row_put b n r (from, omega (arith, within, from)))
    | inr past ↦ inr (
        row_from (put_row b n r) n from
        ∙ ap (λ x. get_or (cond x b.rows (set b.rows (n - b.first) r)) (n - b.first) blank) (le-ltb n b.first from)
        ∙ get_or_past (set b.rows (n - b.first) r) (n - b.first) blank (omega (arith, length-set b.rows (n - b.first) r, past))
        ∙ sym (get_or_past b.rows (n - b.first) blank past)
        ∙ sym (row_from b n from)
        )
  ]
]

publish_not : (b : Board) (w n : ℕ) (notes : List Note) → MayPublish b w n notes → IsCommitted (row_at b n).state → ⊥
publish_not b w n notes (inl e) h = subst IsCommitted e h
publish_not b w n notes (inr e) h = subst IsCommitted e.1 h

check_not : (b : Board) (w n : ℕ) (notes : List Note) (answer : Option Answer) (t i : ℕ) → Compares b w n notes answer t i → IsCommitted (row_at b n).state → ⊥
check_not b w n notes answer t i (inl c) h = subst IsCommitted c.1.1 h
check_not b w n notes answer t i (inr e) h = subst IsCommitted e h

module _ (old : Board) (m : ℕ) (is : IsCommitted (row_at old m).state) where
  Stay : Board → Type 0
  Stay new = row_at new m ≡ row_at old m

  stay : (n : ℕ) (r : Row) → (IsCommitted (row_at old n).state → ⊥) → row_at (put_row old n r) m ≡ row_at old m
  stay n r bar = elim (cases_eq m n) [
    | inl e ↦ absurd (bar (subst (λ x. IsCommitted (row_at old x).state) e is))
    | inr ne ↦ row_put_off old n r m ne
  ]

  by : {b new : Board} → new ≡ b → row_at b m ≡ row_at old m → row_at new m ≡ row_at old m
  by e h = ap (λ (x : Board). row_at x m) e ∙ h

  take_stays : (w n : ℕ) (reply : Reply) (new : Board) → TakeStep old w n reply new → row_at new m ≡ row_at old m
  take_stays w n (Taken a) new h = by h.3 (stay n _ (λ c. subst IsCommitted h.0.waiting c))
  take_stays w n (Attempts q) new h = by h.3 refl
  take_stays w n Idle new h = by h.1 refl
  take_stays w n _ new h = absurd h

  look_stays : (plan : Planned) (w : ℕ) (k : Key) (reply : Reply) (new : Board) → LookStep plan old w k reply new → row_at new m ≡ row_at old m
  look_stays plan w k (Seen name value) new h = by h.5 (stay h.0 _ (λ c. subst IsCommitted h.2.running c))
  look_stays plan w k (Stopped q) new h = by h.4 (stay h.0 _ (λ c. subst IsCommitted h.2.running c))
  look_stays plan w k Idle new h = by h.1 refl
  look_stays plan w k _ new h = absurd h

  publish_stays : (w : ℕ) (v : Contents) (reply : Reply) (new : Board) → PublishStep old w v reply new → row_at new m ≡ row_at old m
  publish_stays w v Placed new h = by h.8 (stay h.0 _ (publish_not old w h.0 h.1 h.2))
  publish_stays w v Lifted new h = by h.8 (stay h.0 _ (publish_not old w h.0 h.1 h.2))
  publish_stays w v Whole new h = by h.6 (stay h.0 _ (publish_not old w h.0 h.1 h.2))
  publish_stays w v Stranger new h = by h.4 refl
  publish_stays w v ClockSpent new h = by h.6 refl
  publish_stays w v Idle new h = by h.1 refl
  publish_stays w v _ new h = absurd h

  check_stays : (w n : ℕ) (reply : Reply) (new : Board) → CheckStep old w n reply new → row_at new m ≡ row_at old m
  check_stays w n Same new h = by h.8 (stay n _ (check_not old w n h.0 h.1 h.2 h.3 h.4))
  check_stays w n (Changed key noted now) new h = elim h.6 [
    | inl g ↦ by g.1 (stay n _ (check_not old w n h.0 h.1 h.2 h.3 h.4))
    | inr g ↦ by g.2 (stay n _ (check_not old w n h.0 h.1 h.2 h.3 h.4))
  ]
  check_stays w n Whole new h = by h.6 (stay n _ (check_not old w n h.0 h.1 h.2 h.3 h.4))
  check_stays w n ClockSpent new h = by h.8 refl
  check_stays w n Idle new h = by h.1 refl
  check_stays w n _ new h = absurd h

  commit_stays : (n : ℕ) (reply : Reply) (new : Board) → CommitStep old n reply new → row_at new m ≡ row_at old m
  commit_stays n Commits new h = by h.4 (stay n _ (λ c. subst IsCommitted h.3.done c))
  commit_stays n Later new h = by h.3 refl
  commit_stays n Idle new h = by h.1 refl
  commit_stays n _ new h = absurd h

  pub committed_stays : (plan : Planned) (call : Call) (reply : Reply) (new : Board) → Step plan old call reply new → row_at new m ≡ row_at old m
  committed_stays plan (Take w n) reply new h = take_stays w n reply new h
  committed_stays plan (Look w k) reply new h = look_stays plan w k reply new h
  committed_stays plan (Publish w v) reply new h = publish_stays w v reply new h
  committed_stays plan (Check w n) reply new h = check_stays w n reply new h
  committed_stays plan (Commit n) reply new h = commit_stays n reply new h

-- a line that waits after a step, and did not before it
module _ (old : Board) (m : ℕ) (busy : (row_at old m).state ≢ Waiting) where
  put_waits : (n : ℕ) (r : Row) → (r.state ≢ Waiting) → (row_at (put_row old n r) m).state ≡ Waiting → ⊥
  put_waits n r other h = elim (cases_eq m n) [
    | inl e ↦ elim (put_here old n r) [
      | inl is ↦ other (ap (λ (l : Row). l.state) (sym is) ∙ subst (λ x. (row_at (put_row old n r) x).state ≡ Waiting) e h)
      | inr is ↦ busy (subst (λ x. (row_at old x).state ≡ Waiting) (sym e) (ap (λ (l : Row). l.state) (sym is) ∙ subst (λ x. (row_at (put_row old n r) x).state ≡ Waiting) e h))
    ]
    | inr ne ↦ busy (ap (λ (l : Row). l.state) (sym (row_put_off old n r m ne)) ∙ h)
  ]

  none : {A : Type 0} {b new : Board} → new ≡ b → ((row_at b m).state ≡ Waiting → ⊥) → (row_at new m).state ≡ Waiting → A
  none e no_way h = absurd (no_way (ap (λ (x : Board). (row_at x m).state) (sym e) ∙ h))

  -- it is the line that is put
  put_one : (n : ℕ) (r : Row) → (row_at (put_row old n r) m).state ≡ Waiting → n ≡ m
  put_one n r h = elim (cases_eq m n) [
    | inl e ↦ sym e
    | inr ne ↦ absurd (busy (ap (λ (l : Row). l.state) (sym (row_put_off old n r m ne)) ∙ h))
  ]

  one : {b new : Board} (n : ℕ) → new ≡ b → ((row_at b m).state ≡ Waiting → n ≡ m) → (row_at new m).state ≡ Waiting → n ≡ m
  one n e is h = is (ap (λ (x : Board). (row_at x m).state) (sym e) ∙ h)

  -- a check that failed is one of the line that waits
  failed : (w n : ℕ) (key : Key) (noted : Name) (now : Found) (new : Board) → CheckStep old w n (Changed key noted now) new → (row_at new m).state ≡ Waiting → n ≡ m
  failed w n key noted now new h z = elim h.6 [
    | inl g ↦ one n g.1 (put_one n _) z
    | inr g ↦ one n g.2 (put_one n _) z
  ]

  by_check : (w n : ℕ) (key : Key) (noted : Name) (now : Found) (new : Board) → CheckStep old w n (Changed key noted now) new → n ≡ m → SendsBack old m (Check w n) (Changed key noted now)
  by_check w n key noted now new h e =
      (e, h.0, h.1, h.2, h.3, subst (λ x. Compares old w x h.0 h.1 h.2 h.3) e h.4, subst (λ x. Differs old x h.0 h.3 key noted now) e h.5)

  by_look : (plan : Planned) (w : ℕ) (k : Key) (line : ℕ) (new : Board) → (h : LookStep plan old w k (Stopped line) new) → h.0 ≡ m → SendsBack old m (Look w k) (Stopped line)
  by_look plan w k line new h e = (h.1, subst (λ x. MayLook old w k x h.1) e h.2, subst (λ x. found (row_at old) x k ≡ Suspect line) e h.3)

  pub sent_back : (plan : Planned) (call : Call) (reply : Reply) (new : Board) → Step plan old call reply new → (row_at new m).state ≡ Waiting → SendsBack old m call reply
  sent_back plan (Take w n) (Taken a) new h z = none h.3 (put_waits n _ (λ e. cc)) z
  sent_back plan (Take w n) (Attempts q) new h z = none h.3 busy z
  sent_back plan (Take w n) Idle new h z = none h.1 busy z
  sent_back plan (Take w n) _ new h z = absurd h
  sent_back plan (Look w k) (Seen name value) new h z = none h.5 (put_waits h.0 _ (λ e. cc)) z
  sent_back plan (Look w k) (Stopped q) new h z = by_look plan w k q new h (one h.0 h.4 (put_one h.0 _) z)
  sent_back plan (Look w k) Idle new h z = none h.1 busy z
  sent_back plan (Look w k) _ new h z = absurd h
  sent_back plan (Publish w v) Placed new h z = none h.8 (put_waits h.0 _ (λ e. cc)) z
  sent_back plan (Publish w v) Lifted new h z = none h.8 (put_waits h.0 _ (λ e. cc)) z
  sent_back plan (Publish w v) Whole new h z = none h.6 (put_waits h.0 _ (λ e. cc)) z
  sent_back plan (Publish w v) Stranger new h z = none h.4 busy z
  sent_back plan (Publish w v) ClockSpent new h z = none h.6 busy z
  sent_back plan (Publish w v) Idle new h z = none h.1 busy z
  sent_back plan (Publish w v) _ new h z = absurd h
  sent_back plan (Check w n) Same new h z = none h.8 (put_waits n _ (λ e. cc)) z
  sent_back plan (Check w n) (Changed key noted now) new h z = by_check w n key noted now new h (failed w n key noted now new h z)
  sent_back plan (Check w n) Whole new h z = none h.6 (put_waits n _ (λ e. cc)) z
  sent_back plan (Check w n) ClockSpent new h z = none h.8 busy z
  sent_back plan (Check w n) Idle new h z = none h.1 busy z
  sent_back plan (Check w n) _ new h z = absurd h
  sent_back plan (Commit n) Commits new h z = none h.4 (put_waits n _ (λ e. cc)) z
  sent_back plan (Commit n) Later new h z = none h.3 busy z
  sent_back plan (Commit n) Idle new h z = none h.1 busy z
  sent_back plan (Commit n) _ new h z = absurd h
