-- One line moves; the sets say what the board says then.
use Rattle.std.proofs.Common.{◌≡◌, ◌≢◌, ℕ, ◌-◌, ◌<◌, ◌≤◌, true, false, List, Some, None, length, replicate, refl, sym, ap, ap₂, subst, ◌∙◌, inl, inr, arith}
use Rattle.std.proofs.lemmas.Bool.{cases_eq, cases_lt}
use Rattle.std.proofs.lemmas.List.{length-replicate, get_or-replicate}
use Rattle.read_set.specs.Plans.{Planned}
use Rattle.board_steps.specs.Board.{State, Row, Board, IsLine, blank, row_at}
use Rattle.board_steps.specs.Board.State.{Waiting, Running, Placing, Done, Checking, Committed}
use Rattle.board_steps.specs.Reached.{Reached, StateOk}
use Rattle.board_steps.specs.Steps.{put_row, opening, opening_row}
use Rattle.board_steps.proofs.Lines.{row_from, row_put, row_put_off, length_put}
use Rattle.speculate.specs.declared.ready.Mark.{Mark}
use Rattle.speculate.specs.declared.ready.Mark.TheVariants as marks
use Rattle.speculate.specs.declared.ready.Ready.{Ready}
use Rattle.speculate.proofs.Marking.{long_positions}
use Rattle.board_lines.specs.declared.reply.Reply.{Reply}
use Rattle.speculate.specs.Marks.{Fits, Follows, IsStill, HasTurned, IsMarked, HasPositions, IsPosition, IsReady, Puts, lost, Loses, all_waiting}

-- the stamp of a state isn't past the clock
abbrev pub StampBy : ℕ → State → Type 0
StampBy clock Waiting = Unit {0}
StampBy clock (Running w notes) = Unit {0}
StampBy clock (Placing w notes last) = Unit {0}
StampBy clock (Done notes answer None) = Unit {0}
StampBy clock (Done notes answer (Some t)) = t ≤ clock
StampBy clock (Checking w notes answer t i) = t ≤ clock
StampBy clock (Committed answer) = Unit {0}

stamp_of : (plan : Planned) (rows : ℕ → Row) (clock n : ℕ) (r : Row) (s : State) → StateOk plan rows clock n r s → StampBy clock s
stamp_of plan rows clock n r Waiting h = tt
stamp_of plan rows clock n r (Running w notes) h = tt
stamp_of plan rows clock n r (Placing w notes last) h = tt
stamp_of plan rows clock n r (Done notes answer None) h = tt
stamp_of plan rows clock n r (Done notes answer (Some t)) h = (h.held t refl).0
stamp_of plan rows clock n r (Checking w notes answer t i) h = h.past
stamp_of plan rows clock n r (Committed answer) h = tt

pub stamp_by : (plan : Planned) (b : Board) → Reached plan b → (n : ℕ) → StampBy b.clock (row_at b n).state
stamp_by plan b ok n = stamp_of plan (row_at b) b.clock n (row_at b n) (row_at b n).state (ok.rows.each n).state

-- nothing below has changed
module _ (rows others : ℕ → Row) (n : ℕ) (same : (m : ℕ) → m < n → (others m).changed ≡ (rows m).changed) where
  still_same : (t : ℕ) → IsStill rows n t → IsStill others n t
  still_same t h m lt = omega (arith, same m lt, h m lt)

  turned_same : (t : ℕ) → HasTurned rows n t → HasTurned others n t
  turned_same t h = (h.0, h.1, omega (arith, same h.0 h.1, h.2))

  pub fits_same : (s : State) (mark : Mark) → Fits rows n s mark → Fits others n s mark
  fits_same Waiting mark h = h
  fits_same (Running w notes) mark h = h
  fits_same (Placing w notes last) mark h = h
  fits_same (Done notes answer None) mark h = h
  fits_same (Done notes answer (Some t)) mark h = elim h [
    | inl x ↦ inl (x.0, still_same t x.1)
    | inr x ↦ inr (x.0, turned_same t x.1)
  ]
  fits_same (Checking w notes answer t i) mark h = elim h [
    | inl x ↦ inl (x.0, still_same t x.1)
    | inr x ↦ inr (x.0, turned_same t x.1)
  ]
  fits_same (Committed answer) mark h = h

-- a line below has changed past the clock
pub fits_lost : (rows others : ℕ → Row) (n clock m : ℕ) → m < n → clock < (others m).changed → (s : State) (mark : Mark) → StampBy clock s → Fits rows n s mark → Fits others n s (lost mark)
fits_lost rows others n clock m lt big Waiting mark by h = ap lost h
fits_lost rows others n clock m lt big (Running w notes) mark by h = ap lost h
fits_lost rows others n clock m lt big (Placing w notes last) mark by h = ap lost h
fits_lost rows others n clock m lt big (Done notes answer None) mark by h = ap lost h
fits_lost rows others n clock m lt big (Done notes answer (Some t)) mark by h = elim h [
  | inl x ↦ inr (ap lost x.0, (m, lt, omega (arith, big, by)))
  | inr x ↦ inr (ap lost x.0, (m, lt, omega (arith, big, by)))
]
fits_lost rows others n clock m lt big (Checking w notes answer t i) mark by h = elim h [
  | inl x ↦ inr (ap lost x.0, (m, lt, omega (arith, big, by)))
  | inr x ↦ inr (ap lost x.0, (m, lt, omega (arith, big, by)))
]
fits_lost rows others n clock m lt big (Committed answer) mark by h = ap lost h

-- only line n is another, and it is this one
pub record Turns (b b' : Board) (n : ℕ) (row : Row) : Type 0 where
  pub there : IsLine b n
  pub first : b'.first ≡ b.first
  pub rows : length b'.rows ≡ length b.rows
  pub workers : b'.workers ≡ b.workers
  pub at : row_at b' n ≡ row
  pub off : (m : ℕ) → m ≢ n → row_at b' m ≡ row_at b m

-- a board that has just the rows of another with one row put
pub turns_put : (b b' : Board) (n : ℕ) (row : Row) → IsLine b n → b'.first ≡ b.first → b'.rows ≡ (put_row b n row).rows → b'.workers ≡ b.workers → Turns b b' n row
turns_put b b' n row there first rows workers =
    let same : (m : ℕ) → row_at b' m ≡ row_at (put_row b n row) m =
    λ m. ap₂ (λ (f : ℕ) (x : List Row). row_at (record b { first = f; rows = x }) m) first rows in
    record {
      there = there;
      first = first;
      rows = ap (λ (x : List Row). length x) rows ∙ length_put b n row;
      workers = workers;
      at = same n ∙ row_put b n row there;
      off = λ m ne. same m ∙ row_put_off b n row m ne;
    }

module _ (b b' : Board) (n : ℕ) (row : Row) (turns : Turns b b' n row) where
  line_back : (m : ℕ) → IsLine b' m → IsLine b m
  line_back m l = (omega (arith, l.0, turns.first), omega (arith, l.1, turns.first, turns.rows))

  apart : (m : ℕ) → m ≢ n → IsLine b m → m - b.first ≢ n - b.first
  apart m ne l e = ne (omega (arith, e, l.0, turns.there.0))

  mark_at : (r : Ready) (m : ℕ) (mark : Mark) → IsMarked r (m - b.first) mark → IsMarked r (m - b'.first) mark
  mark_at r m mark h = subst (λ f. IsMarked r (m - f) mark) (sym turns.first) h

  state_at : (m : ℕ) → m ≢ n → (mark : Mark) → Fits (row_at b') m (row_at b m).state mark → Fits (row_at b') m (row_at b' m).state mark
  state_at m ne mark h = subst (λ (x : Row). Fits (row_at b') m x.state mark) (sym (turns.off m ne)) h

  state_here : (mark : Mark) → Fits (row_at b') n row.state mark → Fits (row_at b') n (row_at b' n).state mark
  state_here mark h = subst (λ (x : Row). Fits (row_at b') n x.state mark) (sym turns.at) h

  changed_off : (m : ℕ) → m ≢ n → (row_at b' m).changed ≡ (row_at b m).changed
  changed_off m ne = ap (λ (x : Row). x.changed) (turns.off m ne)

  own_below : (mark : Mark) → Fits (row_at b) n row.state mark → Fits (row_at b') n row.state mark
  own_below mark h = fits_same (row_at b) (row_at b') n (λ m lt. changed_off m (λ e. omega (arith, e, lt))) row.state mark h

  -- its entries are as they were
  pub ready_put : (r r' : Ready) (mark : Mark) → row.changed ≡ (row_at b n).changed → Fits (row_at b) n row.state mark → Puts r r' (n - b.first) mark → IsReady b r → IsReady b' r'
  ready_put r r' mark same fits puts ready =
      let still : (m : ℕ) → (row_at b' m).changed ≡ (row_at b m).changed =
      λ m. elim (cases_eq m n) [
        | inl e ↦ subst (λ x. (row_at b' x).changed ≡ (row_at b x).changed) (sym e) (ap (λ (x : Row). x.changed) turns.at ∙ same)
        | inr ne ↦ changed_off m ne
      ] in
      record {
        positions = subst (λ x. HasPositions x r') (sym turns.rows) (long_positions r r' (length b.rows) puts.same ready.positions);
        few = omega (arith, ready.few, turns.rows);
        workers = (omega (arith, ready.workers.0, turns.workers), omega (arith, ready.workers.1, turns.workers));
        each = λ m l. elim (cases_eq m n) [
          | inl e ↦ subst (λ x. (mark : Mark) × Fits (row_at b') x (row_at b' x).state mark × IsMarked r' (x - b'.first) mark) (sym e)
              (mark, state_here mark (own_below mark fits), mark_at r' n mark puts.here)
          | inr ne ↦ (let was = ready.each m (line_back m l) in (
            was.0,
            state_at m ne was.0 (fits_same (row_at b) (row_at b') m (λ q lt. still q) (row_at b m).state was.0 was.1),
            mark_at r' m was.0 (puts.off (m - b.first) was.0 (apart m ne (line_back m l)) was.2),
          ))
        ];
      }

  -- its entries have changed
  pub ready_change : (r mid r' : Ready) (mark : Mark) → ((m : ℕ) → StampBy b.clock (row_at b m).state) → b.clock < row.changed → Fits (row_at b) n row.state mark
      → Puts r mid (n - b.first) mark → Loses mid r' (n - b.first) → IsReady b r → IsReady b' r'
  ready_change r mid r' mark stamps big fits puts loses ready =
      let here : b.clock < (row_at b' n).changed = omega (arith, big, ap (λ (x : Row). x.changed) turns.at) in
      record {
        positions = subst (λ x. HasPositions x r') (sym turns.rows) (long_positions mid r' (length b.rows) loses.same (long_positions r mid (length b.rows) puts.same ready.positions));
        few = omega (arith, ready.few, turns.rows);
        workers = (omega (arith, ready.workers.0, turns.workers), omega (arith, ready.workers.1, turns.workers));
        each = λ m l. elim (cases_eq m n) [
          | inl e ↦ subst (λ x. (mark : Mark) × Fits (row_at b') x (row_at b' x).state mark × IsMarked r' (x - b'.first) mark) (sym e)
              (mark, state_here mark (own_below mark fits), mark_at r' n mark (loses.rest (n - b.first) mark (omega arith) puts.here))
          | inr ne ↦ (let there = line_back m l in
              let was = ready.each m there in
              elim (cases_lt n m) [
                | inl more ↦ (
                  lost was.0,
                  state_at m ne (lost was.0) (fits_lost (row_at b) (row_at b') m b.clock n more here (row_at b m).state was.0 (stamps m) was.1),
                  mark_at r' m (lost was.0) (loses.above (m - b.first) was.0 (omega (arith, more, turns.there.0)) (puts.off (m - b.first) was.0 (apart m ne there) was.2)),
                )
                | inr le ↦ (
                  was.0,
                  state_at m ne was.0 (fits_same (row_at b) (row_at b') m (λ q lt. changed_off q (λ e. omega (arith, e, lt, le))) (row_at b m).state was.0 was.1),
                  mark_at r' m was.0 (loses.rest (m - b.first) was.0 (omega (arith, le)) (puts.off (m - b.first) was.0 (apart m ne there) was.2)),
                )
              ])
        ];
      }

-- the position of a line is one of each set
pub place_of_line : (b : Board) (r : Ready) (n : ℕ) → IsReady b r → IsLine b n → IsPosition r (n - b.first)
place_of_line b r n ready there = record {
  of_waiting = omega (arith, ready.positions.of_waiting, there.0, there.1);
  of_unchecked = omega (arith, ready.positions.of_unchecked, there.0, there.1);
  of_checked = omega (arith, ready.positions.of_checked, there.0, there.1);
  of_checking = omega (arith, ready.positions.of_checking, there.0, there.1);
  as_many = omega (arith, ready.positions.of_checked, ready.positions.of_unchecked);
  few = omega (arith, ready.few, there.0, there.1);
}

-- a position as it is computed from the plan
module _ (plan P : Planned) (b : Board) (p n : ℕ) (e : p ≡ n - P.first) (named : P ≡ plan) (ok : Reached plan b) where
  pub position_is : p ≡ n - b.first
  position_is = omega (arith, e, ap (λ (x : Planned). x.first) named, ok.first)

  pub place_back : n - b.first ≡ p
  place_back = sym position_is

  pub is_position : (r : Ready) → IsReady b r → IsLine b n → IsPosition r p
  is_position r ready there = subst (IsPosition r) place_back (place_of_line b r n ready there)

  pub puts_at : (r r' : Ready) (mark : Mark) → Puts r r' p mark → Puts r r' (n - b.first) mark
  puts_at r r' mark h = subst (λ x. Puts r r' x mark) position_is h

  pub follows_at : {J : Type 0} (r r' : Ready) (reply : Reply J) → Follows reply r r' p → Follows reply r r' (n - b.first)
  follows_at r r' reply h = subst (λ x. Follows reply r r' x) position_is h

  -- the line is not before the first
  pub from_first : IsLine b n → P.first ≤ n
  from_first there = omega (arith, there.0, ap (λ (x : Planned). x.first) named, ok.first)

-- at the beginning all lines wait
pub opening_ready : (plan : Planned) (workers attempt clock count : ℕ) → (1 ≤ workers) × (workers ≤ 64) → count ≡ length plan.readings → count ≤ 1000000 → IsReady (opening plan workers attempt clock) (all_waiting count)
opening_ready plan workers attempt clock count some e few =
    let rows : List Row = replicate (length plan.readings) (opening_row attempt) in
    let long : length rows ≡ length plan.readings = length-replicate (length plan.readings) (opening_row attempt) in
    record {
      positions = record {
        of_waiting = length-replicate count true ∙ e ∙ sym long;
        of_unchecked = length-replicate count false ∙ e ∙ sym long;
        of_checked = length-replicate count false ∙ e ∙ sym long;
        of_checking = length-replicate count false ∙ e ∙ sym long;
      };
      few = omega (arith, long, e, few);
      workers = some;
      each = λ n l.
          let p = n - plan.first in
          let lt : p < count = omega (arith, l.0, l.1, long, e) in
          let at : row_at (opening plan workers attempt clock) n ≡ opening_row attempt = row_from (opening plan workers attempt clock) n l.0 ∙ get_or-replicate (length plan.readings) p (opening_row attempt) blank (omega (arith, lt, e)) in (
            marks.Waiting,
            subst (λ (x : Row). Fits (row_at (opening plan workers attempt clock)) n x.state marks.Waiting) (sym at) refl,
            record {
              in_waiting = get_or-replicate count p true false lt;
              in_unchecked = get_or-replicate count p false false lt;
              in_checked = get_or-replicate count p false false lt;
              in_checking = get_or-replicate count p false false lt;
            },
          );
    }
