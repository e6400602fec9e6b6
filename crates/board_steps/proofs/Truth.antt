-- Committed lines are those of one thread, and a commit by stamps alone adds one.
use Rattle.std.proofs.Common.{◌≡◌, ℕ, zero, suc, ◌+◌, ◌-◌, ◌<◌, ◌≤◌, List, [], ◌∷◌, Option, Some, None, length, slice_get, refl, sym, ap, subst, ◌∙◌, inl, inr, arith}
use Rattle.std.proofs.lemmas.Option.{none-some, slice_get_within}
use Rattle.std.proofs.lemmas.Bool.{cases_eq, cases_lt, cases_order}
use Rattle.circ_records.specs.Records.{record_at}
use Rattle.circ_records.specs.declared.key.Key.{Key}
use Rattle.circ_records.specs.declared.record.Record.{Record}
use Rattle.sip_answer.specs.declared.answer.Answer.{Answer}
use Rattle.read_set.specs.Maps.{Map}
use Rattle.read_set.specs.Plans.{Planned}
use Rattle.read_set.specs.Replay.{one_at, after, before}
use Rattle.read_set.specs.Settling.{AreTrue}
use Rattle.read_set.specs.declared.notes.Note.{Note}
use Rattle.version_store.specs.Entries.{Shown, above}
use Rattle.board_steps.specs.Board.{State, Row, Board, IsLine, row_at, entry, IsCommitted, live_of, record_of, value_at, entry_over}
use Rattle.board_steps.specs.Board.State.{Waiting, Running, Placing, Done, Checking, Committed}
use Rattle.board_steps.specs.Reached.{Held, DoneOk, CommittedOk, StateOk, RowOk, Reached}
use Rattle.board_steps.specs.Steps.{put_row, with_state, MayCommit}
use Rattle.board_steps.proofs.Views.{note_value}
use Rattle.board_steps.proofs.Keep.{Turn}
use Rattle.board_steps.proofs.Lines.{each_keep, bare_keep, within_board, live_put, length_put, hands_put}
use Rattle.board_steps.proofs.Calls.{own, state_is, state_turn, from}

-- what is known of a committed line
pub committed_is : (plan : Planned) (rows : ℕ → Row) (clock n : ℕ) (l : Row) (s : State) → IsCommitted s → StateOk plan rows clock n l s → (answer : Option Answer) × (s ≡ Committed answer) × CommittedOk plan n l answer
committed_is plan rows clock n l (Committed answer) c h = (answer, refl, h)
committed_is plan rows clock n l Waiting c h = absurd c
committed_is plan rows clock n l (Running w notes) c h = absurd c
committed_is plan rows clock n l (Placing w notes last) c h = absurd c
committed_is plan rows clock n l (Done notes answer stamp) c h = absurd c
committed_is plan rows clock n l (Checking w notes answer t i) c h = absurd c

over_record : (n : ℕ) (k : Key) (o : Option Shown) (below : Option (ℕ × Shown)) (base : Option Record) → record_of k (above n o below) base ≡ entry_over o k (record_of k below base)
over_record n k None below base = refl
over_record n k (Some e) below base = refl

-- ---- the records before a line
before_first : (plan : Planned) (n : ℕ) (k : Key) → n ≤ plan.first → before plan n k ≡ record_at plan.base k
before_first plan n k le = let z : n - plan.first ≡ 0 = omega arith in ap (λ x. after plan x k) z

after_next : (plan : Planned) (p n : ℕ) (k : Key) → plan.first + p ≡ n → after plan (suc p) k ≡ (one_at plan n (after plan p)).0 k
after_next plan p n k e = ap (λ x. (one_at plan x (after plan p)).0 k) e

before_next : (plan : Planned) (n : ℕ) (k : Key) → plan.first ≤ n → before plan (suc n) k ≡ (one_at plan n (before plan n)).0 k
before_next plan n k le =
    let z : suc n - plan.first ≡ suc (n - plan.first) = omega arith in
    ap (λ x. after plan x k) z ∙ after_next plan (n - plan.first) n k (omega arith)

-- below committed lines alone, what is visible is the map of one thread
pub value_before : (plan : Planned) (rows : ℕ → Row) (clock : ℕ) → ((m : ℕ) → RowOk plan rows clock m (rows m)) → ((m : ℕ) → m < plan.first → (k : Key) → entry (rows m) k ≡ None)
    → (n : ℕ) → ((m : ℕ) → plan.first ≤ m → m < n → IsCommitted (rows m).state) → (k : Key) → value_at plan rows n k ≡ before plan n k
value_before plan rows clock each bare zero all k = sym (before_first plan zero k (omega arith))
value_before plan rows clock each bare (suc n) all k = elim (cases_lt n plan.first) [
  | inl early ↦
      over_record n k (entry (rows n) k) _ _
      ∙ ap (λ (o : Option Shown). entry_over o k (value_at plan rows n k)) (bare n early k)
      ∙ value_before plan rows clock each bare n (λ m le lt. all m le (omega arith)) k
      ∙ before_first plan n k (omega arith)
      ∙ sym (before_first plan (suc n) k (omega arith))
  | inr from_first ↦ (let c = committed_is plan rows clock n (rows n) (rows n).state (all n from_first (omega arith)) (each n).state in
      over_record n k (entry (rows n) k) _ _
      ∙ ap (λ (v : Option Record). entry_over (entry (rows n) k) k v) (value_before plan rows clock each bare n (λ m le lt. all m le (omega arith)) k)
      ∙ c.2.map k)
]

-- notes that are each true are true
all_true_notes : (notes : List Note) (M : Map) → ((j : ℕ) (x : Note) → slice_get notes j ≡ Some x → M x.key ≡ x.found) → AreTrue notes M
all_true_notes [] M h = tt
all_true_notes (x ∷ notes) M h = (h zero x refl, all_true_notes notes M (λ j y g. h (suc j) y g))

module _ (plan : Planned) (b : Board) (n : ℕ) (notes : List Note) (answer : Option Answer) (t : ℕ) (ok : Reached plan b) (may : MayCommit b n notes answer t) where
  commit_within : IsLine b n
  commit_within = within_board b n (λ d. let z : Done notes answer (Some t) ≡ Waiting = sym may.done ∙ d in cc)

  commit_from : plan.first ≤ n
  commit_from = from plan b n ok commit_within

  commit_bar : IsCommitted (row_at b n).state → ⊥
  commit_bar h = subst IsCommitted may.done h

  is_least : n ≡ plan.first + b.committed
  is_least = elim (cases_order n (plan.first + b.committed)) [
    | inl e ↦ e
    | inr d ↦ elim d [
      | inl lt ↦ absurd (commit_bar (ok.rows.first n commit_from lt))
      | inr lt ↦ absurd (omega (arith, ok.rows.only (plan.first + b.committed) (may.below (plan.first + b.committed) (omega (arith, ok.first)) lt)))
    ]
  ]

  done : DoneOk plan (row_at b) b.clock n (row_at b n) notes answer (Some t)
  done = state_is plan b n ok (Done notes answer (Some t)) may.done

  -- no line below has changed since the stamp, so the notes are true in the map of one thread
  all_true : Held (row_at b) n notes t (length notes) → AreTrue notes (before plan n)
  all_true (inl w) = absurd (omega (arith, may.unchanged w.0 w.1, w.2))
  all_true (inr f) = all_true_notes notes (before plan n) (λ j x g.
      sym (
      note_value plan (row_at b) n x (done.noted j x g) (f j x (slice_get_within notes j x g) g)
      ∙ value_before plan (row_at b) b.clock ok.rows.each ok.rows.bare n (λ m le lt. may.below m (omega (arith, le, ok.first)) lt) x.key
      ))

  pub commit_reached : Reached plan (record (put_row b n (with_state (row_at b n) (Committed answer))) { committed = b.committed + 1 })
  commit_reached =
      let s : State = Committed answer in
      let r : Row = with_state (row_at b n) s in
      let mine = own plan b n ok in
      let turn : Turn (row_at b) (row_at (put_row b n r)) b.clock b.clock n r = state_turn plan b n ok s commit_within in
      let true_in : AreTrue notes (before plan n) = all_true (done.held t refl).1 in
      record {
        first = ok.first;
        all = length_put b n r ∙ ok.all;
        rows = record {
          first = λ m le lt. elim (cases_eq m n) [
            | inl e ↦ subst (λ x. IsCommitted (row_at (put_row b n r) x).state) (sym e) (subst (λ (l : Row). IsCommitted l.state) (sym turn.at) tt)
            | inr ne ↦ subst (λ (l : Row). IsCommitted l.state) (sym (turn.off m ne)) (ok.rows.first m le (omega (arith, is_least)))
          ];
          only = λ m h. elim (cases_eq m n) [
            | inl e ↦ omega (arith, is_least)
            | inr ne ↦ omega (arith, ok.rows.only m (subst (λ (l : Row). IsCommitted l.state) (turn.off m ne) h))
          ];
          bare = bare_keep plan (row_at b) (row_at (put_row b n r)) b.clock b.clock n r turn commit_from ok.rows.bare;
          each = each_keep plan (row_at b) (row_at (put_row b n r)) b.clock b.clock n r turn ok.rows.each
              (record {
                begun = mine.begun;
                past = mine.past;
                state = record {
                  map = λ k. sym (done.settled.map (before plan n) true_in k) ∙ sym (before_next plan n k commit_from);
                  answers = sym (done.settled.answers (before plan n) true_in);
                  clear = done.clear;
                };
              });
        };
        counted = omega (arith, ok.counted, live_put b n r commit_within, ap live_of may.done);
        hands = hands_put b n r commit_within ok.hands (λ u h. absurd (none-some u h));
      }
