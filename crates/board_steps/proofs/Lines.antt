-- One line moves; what holds of all lines stays.
use Rattle.std.proofs.Common.{◌≡◌, ◌≢◌, ℕ, ◌+◌, ◌-◌, ◌<◌, ◌≤◌, Bool, true, false, cond, List, Some, None, length, set, get_or, refl, sym, ap, subst, ◌∙◌, ◌⊎◌, inl, inr, arith, length-set, get_or-set_same, get_or-set_other, sum_by}
use Rattle.std.proofs.lemmas.Bool.{cases_eq, cases_lt, lt-ltb, le-ltb}
use Rattle.std.proofs.lemmas.List.{get_or_past}
use Rattle.std.proofs.lemmas.List.Sums.{sum_by-set}
use Rattle.circ_records.specs.declared.key.Key.{Key}
use Rattle.read_set.specs.Plans.{Planned}
use Rattle.board_steps.specs.Board.{State, Row, Board, IsLine, blank, row_at, entry, IsCommitted, holder, live_of}
use Rattle.board_steps.specs.Board.State.{Waiting, Running, Placing, Done, Checking, Committed}
use Rattle.board_steps.specs.Reached.{StateOk, RowOk, RowsOk, live, Hands}
use Rattle.board_steps.specs.Steps.{put_row}
use Rattle.board_steps.proofs.Keep.{Turn, notes_keep, moved_at, held_keep}

module _ (plan : Planned) (rows others : ℕ → Row) (clock later n : ℕ) (r : Row) (turn : Turn rows others clock later n r) where
  -- what holds of a state of line m, which itself has not moved
  state_keep : (m : ℕ) (l : Row) (s : State) → StateOk plan rows clock m l s → StateOk plan others later m l s
  state_keep m l Waiting h = tt
  state_keep m l (Running w notes) h =
      record { noted = notes_keep plan rows others clock later n r turn m notes h.noted; none_of_its_own = h.none_of_its_own }
  state_keep m l (Placing w notes last) h =
      record { noted = notes_keep plan rows others clock later n r turn m notes h.noted; placed = h.placed; clear = h.clear; fits = h.fits }
  state_keep m l (Done notes answer stamp) h =
      record {
        noted = notes_keep plan rows others clock later n r turn m notes h.noted;
        settled = h.settled;
        held = λ t e.
            let g = h.held t e in
            (omega (arith, g.0, turn.tick), held_keep rows others clock m notes t (length notes) g.0 (moved_at plan rows others clock later n r turn) g.1);
        clear = h.clear;
      }
  state_keep m l (Checking w notes answer t i) h =
      record {
        noted = notes_keep plan rows others clock later n r turn m notes h.noted;
        settled = h.settled;
        past = omega (arith, h.past, turn.tick);
        held = held_keep rows others clock m notes t i h.past (moved_at plan rows others clock later n r turn) h.held;
        clear = h.clear;
      }
  state_keep m l (Committed answer) h = h

  row_keep : (m : ℕ) (l : Row) → RowOk plan rows clock m l → RowOk plan others later m l
  row_keep m l h = record { begun = h.begun; past = omega (arith, h.past, turn.tick); state = state_keep m l l.state h.state }

  pub each_keep : ((m : ℕ) → RowOk plan rows clock m (rows m)) → RowOk plan others later n r → (m : ℕ) → RowOk plan others later m (others m)
  each_keep each own m = elim (cases_eq m n) [
    | inl e ↦ subst (λ x. RowOk plan others later x (others x)) (sym e) (subst (λ l. RowOk plan others later n l) (sym turn.at) own)
    | inr ne ↦ subst (λ l. RowOk plan others later m l) (sym (turn.off m ne)) (row_keep m (rows m) (each m))
  ]

  -- a line before the first is not the one that moves
  pub bare_keep : plan.first ≤ n → ((m : ℕ) → m < plan.first → (k : Key) → entry (rows m) k ≡ None) → (m : ℕ) → m < plan.first → (k : Key) → entry (others m) k ≡ None
  bare_keep from bare m lt k = ap (λ (l : Row). entry l k) (turn.off m (λ e. omega arith)) ∙ bare m lt k

  -- a line that is not committed moves and is not committed then
  pub rows_keep : (committed : ℕ) → plan.first ≤ n → RowsOk plan rows clock committed → (IsCommitted (rows n).state → ⊥) → (IsCommitted r.state → ⊥) → RowOk plan others later n r → RowsOk plan others later committed
  rows_keep committed from ok before_it after_it own =
      record {
        first = λ m le lt. elim (cases_eq m n) [
          | inl e ↦ absurd (before_it (subst (λ x. IsCommitted (rows x).state) e (ok.first m le lt)))
          | inr ne ↦ subst (λ l. IsCommitted l.state) (sym (turn.off m ne)) (ok.first m le lt)
        ];
        only = λ m h. elim (cases_eq m n) [
          | inl e ↦ absurd (after_it (subst (λ l. IsCommitted l.state) turn.at (subst (λ x. IsCommitted (others x).state) e h)))
          | inr ne ↦ ok.only m (subst (λ l. IsCommitted l.state) (turn.off m ne) h)
        ];
        bare = bare_keep from ok.bare;
        each = each_keep ok.each own;
      }

-- ---- lines by their numbers
pub row_before : (b : Board) (n : ℕ) → n < b.first → row_at b n ≡ blank
row_before b n l = rw (lt-ltb n b.first l) refl

pub row_from : (b : Board) (n : ℕ) → b.first ≤ n → row_at b n ≡ get_or b.rows (n - b.first) blank
row_from b n l = rw (le-ltb n b.first l) refl

-- a line in any state but Waiting is there
pub within_board : (b : Board) (n : ℕ) → ((row_at b n).state ≡ Waiting → ⊥) → IsLine b n
within_board b n h = elim (cases_lt n b.first) [
  | inl before ↦ absurd (h (ap (λ (l : Row). l.state) (row_before b n before)))
  | inr from ↦ elim (cases_lt (n - b.first) (length b.rows)) [
    | inl within ↦ (from, omega (arith, within, from))
    | inr past ↦ absurd (h (ap (λ (l : Row). l.state) (row_from b n from ∙ get_or_past b.rows (n - b.first) blank past)))
  ]
]

pub rows_put : (b : Board) (n : ℕ) (r : Row) → IsLine b n → (put_row b n r).rows ≡ set b.rows (n - b.first) r
rows_put b n r there = rw (le-ltb n b.first there.0) refl

pub row_put : (b : Board) (n : ℕ) (r : Row) → IsLine b n → row_at (put_row b n r) n ≡ r
row_put b n r there =
    row_from (put_row b n r) n there.0
    ∙ ap (λ (x : List Row). get_or x (n - b.first) blank) (rows_put b n r there)
    ∙ get_or-set_same b.rows (n - b.first) r blank (omega (arith, there.0, there.1))

set_if : (b : Bool) (rows : List Row) (p q : ℕ) (r : Row) → (b ≡ false → q ≢ p) → get_or (cond b rows (set rows p r)) q blank ≡ get_or rows q blank
set_if true rows p q r ne = refl
set_if false rows p q r ne = get_or-set_other rows p q r blank (ne refl)

pub row_put_off : (b : Board) (n : ℕ) (r : Row) (m : ℕ) → m ≢ n → row_at (put_row b n r) m ≡ row_at b m
row_put_off b n r m ne = elim (cases_lt m b.first) [
  | inl before ↦ row_before (put_row b n r) m before ∙ sym (row_before b m before)
  | inr from ↦ elim (cases_lt n b.first) [
    | inl less ↦ row_from (put_row b n r) m from ∙ ap (λ x. get_or (cond x b.rows (set b.rows (n - b.first) r)) (m - b.first) blank) (lt-ltb n b.first less) ∙ sym (row_from b m from)
    | inr more ↦ row_from (put_row b n r) m from
        ∙ ap (λ x. get_or (cond x b.rows (set b.rows (n - b.first) r)) (m - b.first) blank) (le-ltb n b.first more)
        ∙ get_or-set_other b.rows (n - b.first) (m - b.first) r blank (λ e. ne (omega (arith, e, from, more)))
        ∙ sym (row_from b m from)
  ]
]

pub live_put : (b : Board) (n : ℕ) (r : Row) → IsLine b n → live (put_row b n r) + live_of (row_at b n).state ≡ live b + live_of r.state
live_put b n r there =
    ap (λ (x : List Row). sum_by (λ l. live_of l.state) x + live_of (row_at b n).state) (rows_put b n r there)
    ∙ ap (λ (x : Row). sum_by (λ l. live_of l.state) (set b.rows (n - b.first) r) + live_of x.state) (row_from b n there.0)
    ∙ sum_by-set (λ l. live_of l.state) b.rows (n - b.first) r blank (omega (arith, there.0, there.1))

length_if : (b : Bool) (rows : List Row) (p : ℕ) (r : Row) → length (cond b rows (set rows p r)) ≡ length rows
length_if true rows p r = refl
length_if false rows p r = length-set rows p r

pub length_put : (b : Board) (n : ℕ) (r : Row) → length (put_row b n r).rows ≡ length b.rows
length_put b n r = length_if _ b.rows (n - b.first) r

-- a line is put whose worker, if it has one, had it in hand before or had none
pub hands_put : (b : Board) (n : ℕ) (r : Row) → IsLine b n → Hands (row_at b)
    → ((w : ℕ) → holder r.state ≡ Some w → (holder (row_at b n).state ≡ Some w) ⊎ ((m : ℕ) → holder (row_at b m).state ≢ Some w))
    → Hands (row_at (put_row b n r))
hands_put b n r lt hands has m q w hm hq =
    let at : holder (row_at (put_row b n r) n).state ≡ holder r.state = ap (λ (l : Row). holder l.state) (row_put b n r lt) in
    let off : (x : ℕ) → x ≢ n → holder (row_at (put_row b n r) x).state ≡ Some w → holder (row_at b x).state ≡ Some w =
    λ x ne h. ap (λ (l : Row). holder l.state) (sym (row_put_off b n r x ne)) ∙ h in
    let here : (x : ℕ) → x ≡ n → holder (row_at (put_row b n r) x).state ≡ Some w → holder r.state ≡ Some w =
    λ x e h. sym at ∙ subst (λ y. holder (row_at (put_row b n r) y).state ≡ Some w) e h in
    elim (cases_eq m n) [
      | inl em ↦ elim (cases_eq q n) [
        | inl eq ↦ em ∙ sym eq
        | inr nq ↦ elim (has w (here m em hm)) [
          | inl was ↦ absurd (nq (hands q n w (off q nq hq) was))
          | inr free ↦ absurd (free q (off q nq hq))
        ]
      ]
      | inr nm ↦ elim (cases_eq q n) [
        | inl eq ↦ elim (has w (here q eq hq)) [
          | inl was ↦ absurd (nm (hands m n w (off m nm hm) was))
          | inr free ↦ absurd (free m (off m nm hm))
        ]
        | inr nq ↦ hands m q w (off m nm hm) (off q nq hq)
      ]
    ]
