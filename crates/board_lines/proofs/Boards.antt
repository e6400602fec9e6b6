-- The board that the fields are, after a change of one line.
use Rattle.std.proofs.Common.{◌≡◌, ◌≢◌, ℕ, ◌+◌, ◌-◌, ◌<◌, ◌≤◌, max, get_or, map, set, List, Option, length, sym, ap, ap₂, subst, ◌∙◌, inl, inr, arith}
use Rattle.std.proofs.lemmas.Bool.{cases_eq, cases_lt}
use Rattle.std.proofs.lemmas.List.{get_or-map, length-map, map-set}
use Rattle.std.proofs.lemmas.Option.{none-some}
use Rattle.circ_records.specs.Records.{Entries}
use Rattle.read_set.specs.Plans.{Planned}
use Rattle.read_set.specs.Settling.{Contents}
use Rattle.read_set.specs.declared.notes.Note.{Note}
use Rattle.board_steps.specs.Board.{Row, Board, IsLine, IsCommitted, row_at, holder}
use Rattle.board_steps.specs.Board.State.{Placing}
use Rattle.board_steps.specs.Reached.{Reached}
use Rattle.board_steps.specs.Steps.{put_row}
use Rattle.board_steps.proofs.Lines.{row_from, rows_put, row_put, row_put_off, within_board}
use Rattle.board_lines.specs.Courses.{IsUnderWay}
use Rattle.board_lines.specs.Parts.{Kept, Parts, no_notes, row_by, row_shown, first_of, board_of, kept_at, HandsHold, IsKept}
use Rattle.board_lines.specs.declared.lines.Lines.TheInside.{Inside}
use Rattle.board_lines.specs.declared.row.LineRow as code
use Rattle.board_lines.proofs.Firsts.{length_first, nth_first, set_first}

-- the fields of the code, as data
abbrev pub parts_of : {J : Type 0} → Inside J → Parts
parts_of a = record { states = a.attempts; store = a.entries; rows = map row_shown a.rows.items; hands = a.hands.items; clock = a.clock; latest = a.latest }

-- a line is there where its place is among the rows
pub is_there : (base : Entries) (a : Parts) (n : ℕ) → a.states.first ≤ n → n - a.states.first < length a.rows → IsLine (board_of base a) n
is_there base a n le lt = let e = length_first (row_by base a) (length a.rows) in (le, omega (arith, le, lt, e))

pub place_of : (base : Entries) (a : Parts) (n : ℕ) → IsLine (board_of base a) n → n - a.states.first < length a.rows
place_of base a n there = let e = length_first (row_by base a) (length a.rows) in omega (arith, there.0, there.1, e)

pub row_there : (base : Entries) (a : Parts) (n : ℕ) → IsLine (board_of base a) n → row_at (board_of base a) n ≡ row_by base a (n - a.states.first)
row_there base a n there =
    row_from (board_of base a) n there.0 ∙ nth_first (row_by base a) (length a.rows) (n - a.states.first) _ (place_of base a n there)

-- the row of a line, in code and as data
pub row_read : {J : Type 0} (rows : List (code.LineRow J)) (n x first : ℕ) (spot : code.LineRow J) → x ≡ first → n - first < length (map row_shown rows) → spot ≡ get_or rows (n - x) spot
    → get_or (map row_shown rows) (n - first) no_notes ≡ row_shown spot
row_read rows n x first spot f l is =
    get_or-map row_shown rows (n - first) spot no_notes (omega (arith, l, length-map rows row_shown)) ∙ ap row_shown (sym (is ∙ ap (λ y. get_or rows (n - y) spot) f))

pub row_set : {J : Type 0} (rows : List (code.LineRow J)) (n x first : ℕ) (row : code.LineRow J) → x ≡ first → map row_shown (set rows (n - x) row) ≡ set (map row_shown rows) (n - first) (row_shown row)
row_set rows n x first row f = map-set row_shown rows (n - x) row ∙ ap (λ y. set (map row_shown rows) (n - y) (row_shown row)) f

-- the board that a value shows is that of its fields
pub board_shown : {J : Type 0} (a : Inside J) (plan : Planned) (b : Board) → a.plan.now ≡ plan → board_of a.plan.now.base (parts_of a) ≡ b → board_of plan.base (parts_of a) ≡ b
board_shown a plan b same view = ap (λ (x : Planned). board_of x.base (parts_of a)) (sym same) ∙ view

-- a line that is there, and its row in code, where x is the plan's first line
module _ {J : Type 0} (a : Inside J) (plan : Planned) (same : a.plan.now ≡ plan) (kept : IsKept plan (parts_of a)) (n x : ℕ) (x_is : x ≡ a.plan.now.first) (there : IsLine (board_of plan.base (parts_of a)) n) where
  pub first_is : x ≡ a.attempts.first
  first_is = x_is ∙ ap (λ (p : Planned). p.first) same ∙ sym kept.reached.first

  pub from_first : x ≤ n
  from_first = omega (arith, there.0, first_is)

  pub within_rows : n - x < length a.rows.items
  within_rows = omega (arith, place_of plan.base (parts_of a) n there, length-map a.rows.items row_shown, first_is)

  pub spot_is : (spot : code.LineRow J) → spot ≡ get_or a.rows.items (n - x) spot → kept_at (parts_of a) n ≡ row_shown spot
  spot_is spot is = row_read a.rows.items n x a.attempts.first spot first_is (place_of plan.base (parts_of a) n there) is

-- only line n is another
pub record Puts (base : Entries) (a q : Parts) (n : ℕ) (r : Row) : Type 0 where
  pub first : q.states.first ≡ a.states.first
  pub store_first : q.store.first ≡ a.store.first
  pub rows : length q.rows ≡ length a.rows
  pub states : length q.states.rows ≡ length a.states.rows
  pub lines : length q.store.lines ≡ length a.store.lines
  pub here : row_by base q (n - a.states.first) ≡ r
  pub off : (m : ℕ) → m ≢ n - a.states.first → row_by base q m ≡ row_by base a m
  pub kept_off : (m : ℕ) → m ≢ n - a.states.first → get_or q.rows m no_notes ≡ get_or a.rows m no_notes

-- a board with these lines and these numbers
abbrev pub numbered : Board → Parts → Board
numbered b q = record b {
  workers = length q.hands;
  clock = q.clock;
  committed = q.states.counts.commits;
  takes = q.states.counts.takes;
  failed = q.states.counts.failed;
  stops = q.states.counts.stops;
}

pub board_is : (base : Entries) (a q : Parts) (n : ℕ) (r : Row) → IsLine (board_of base a) n → Puts base a q n r → board_of base q ≡ numbered (put_row (board_of base a) n r) q
board_is base a q n r there puts =
    let rows : first_of (row_by base q) (length q.rows) ≡ (put_row (board_of base a) n r).rows =
    ap (first_of (row_by base q)) puts.rows
    ∙ set_first (row_by base a) (row_by base q) (length a.rows) (n - a.states.first) r (place_of base a n there) puts.here puts.off
    ∙ sym (rows_put (board_of base a) n r there) in
    ap₂ (λ (f : ℕ) (x : List Row). record {
      first = f;
      rows = x;
      workers = length q.hands;
      clock = q.clock;
      committed = q.states.counts.commits;
      takes = q.states.counts.takes;
      failed = q.states.counts.failed;
      stops = q.states.counts.stops;
    }) puts.first rows

pub row_new : (base : Entries) (a q : Parts) (n : ℕ) (r : Row) → IsLine (board_of base a) n → Puts base a q n r → row_at (board_of base q) n ≡ r
row_new base a q n r there puts = ap (λ (b : Board). row_at b n) (board_is base a q n r there puts) ∙ row_put (board_of base a) n r there

pub row_old : (base : Entries) (a q : Parts) (n : ℕ) (r : Row) → IsLine (board_of base a) n → Puts base a q n r → (m : ℕ) → m ≢ n → row_at (board_of base q) m ≡ row_at (board_of base a) m
row_old base a q n r there puts m ne = ap (λ (b : Board). row_at b m) (board_is base a q n r there puts) ∙ row_put_off (board_of base a) n r m ne

-- the row of another line is as it was
kept_old : (base : Entries) (a q : Parts) (n : ℕ) (r : Row) → IsLine (board_of base a) n → Puts base a q n r → (m : ℕ) → m ≢ n → a.states.first ≤ m → kept_at q m ≡ kept_at a m
kept_old base a q n r there puts m ne from =
    ap (λ x. get_or q.rows (m - x) no_notes) puts.first ∙ puts.kept_off (m - a.states.first) (λ e. ne (omega (arith, e, from, there.0)))

-- a line that is placing is there
placing_from : (b : Board) (m w : ℕ) (notes : List Note) (last : Option Contents) → (row_at b m).state ≡ Placing w notes last → b.first ≤ m
placing_from b m w notes last h = (within_board b m (λ e. none-some w (sym (ap holder e) ∙ ap holder h))).0

-- each publication has come so far, if that of the line that is put has
under_put : (base : Entries) (a q : Parts) (n : ℕ) (r : Row) → IsLine (board_of base a) n → Puts base a q n r
    → ((w : ℕ) (notes : List Note) (last : Option Contents) → r.state ≡ Placing w notes last → IsUnderWay n r notes last (kept_at q n).course)
    → ((m w : ℕ) (notes : List Note) (last : Option Contents) → (row_at (board_of base a) m).state ≡ Placing w notes last → IsUnderWay m (row_at (board_of base a) m) notes last (kept_at a m).course)
    → (m w : ℕ) (notes : List Note) (last : Option Contents) → (row_at (board_of base q) m).state ≡ Placing w notes last → IsUnderWay m (row_at (board_of base q) m) notes last (kept_at q m).course
under_put base a q n r there puts has each m w notes last h = elim (cases_eq m n) [
  | inl e ↦
      (let new : row_at (board_of base q) n ≡ r = row_new base a q n r there puts in
      let here : (row_at (board_of base q) n).state ≡ Placing w notes last = subst (λ x. (row_at (board_of base q) x).state ≡ Placing w notes last) e h in
      subst (λ x. IsUnderWay x (row_at (board_of base q) x) notes last (kept_at q x).course) (sym e)
      (subst (λ (l : Row). IsUnderWay n l notes last (kept_at q n).course) (sym new) (has w notes last (ap (λ (l : Row). l.state) (sym new) ∙ here))))
  | inr ne ↦
      (let old : row_at (board_of base q) m ≡ row_at (board_of base a) m = row_old base a q n r there puts m ne in
      let was : (row_at (board_of base a) m).state ≡ Placing w notes last = ap (λ (l : Row). l.state) (sym old) ∙ h in
      subst (λ (k : Kept). IsUnderWay m (row_at (board_of base q) m) notes last k.course) (sym (kept_old base a q n r there puts m ne (placing_from (board_of base a) m w notes last was)))
      (subst (λ (l : Row). IsUnderWay m l notes last (kept_at a m).course) (sym old) (each m w notes last was)))
]

-- a line that isn't committed is put
pub kept_put : (plan : Planned) (a q : Parts) (n : ℕ) (r : Row) → IsKept plan a → IsLine (board_of plan.base a) n → Puts plan.base a q n r
    → Reached plan (board_of plan.base q) → HandsHold q.hands (row_at (board_of plan.base q))
    → (IsCommitted (row_at (board_of plan.base a) n).state → ⊥) → q.states.counts.commits ≡ a.states.counts.commits → q.latest ≡ a.latest
    → ((w : ℕ) (notes : List Note) (last : Option Contents) → r.state ≡ Placing w notes last → IsUnderWay n r notes last (kept_at q n).course) → IsKept plan q
kept_put plan a q n r kept there puts reached hand bar commits latest has =
    let f : a.states.first ≡ plan.first = kept.reached.first in
    let off : (m : ℕ) → m < plan.first + a.states.counts.commits → m ≢ n =
    λ m lt e. bar (subst (λ x. IsCommitted (row_at (board_of plan.base a) x).state) e (kept.reached.rows.first m (omega (arith, there.0, e, f)) lt)) in
    record {
      reached = reached;
      same_first = puts.store_first ∙ kept.same_first ∙ sym puts.first;
      all_states = puts.states ∙ kept.all_states ∙ sym puts.rows;
      all_entries = puts.lines ∙ kept.all_entries ∙ sym puts.rows;
      hand = hand;
      under_way = under_put plan.base a q n r there puts has kept.under_way;
      below = λ m lt. let less : m < plan.first + a.states.counts.commits = omega (arith, lt, commits) in
          omega (arith, kept.below m less, ap (λ (l : Row). l.changed) (row_old plan.base a q n r there puts m (off m less)), latest);
      attained = elim kept.attained [
        | inl z ↦ inl (latest ∙ z)
        | inr x ↦ inr (x.0, omega (arith, x.1, commits), latest ∙ x.2 ∙ ap (λ (l : Row). l.changed) (sym (row_old plan.base a q n r there puts x.0 (off x.0 x.1))))
      ];
    }

-- the next line is committed
pub kept_commit : (plan : Planned) (a q : Parts) (n : ℕ) (r : Row) → IsKept plan a → IsLine (board_of plan.base a) n → Puts plan.base a q n r
    → Reached plan (board_of plan.base q) → HandsHold q.hands (row_at (board_of plan.base q))
    → n ≡ plan.first + a.states.counts.commits → q.states.counts.commits ≡ a.states.counts.commits + 1
    → r.changed ≡ (row_at (board_of plan.base a) n).changed → q.latest ≡ max a.latest r.changed
    → ((w : ℕ) (notes : List Note) (last : Option Contents) → r.state ≡ Placing w notes last → IsUnderWay n r notes last (kept_at q n).course) → IsKept plan q
kept_commit plan a q n r kept there puts reached hand least one_more same latest has =
    let changed : (m : ℕ) → (row_at (board_of plan.base q) m).changed ≡ (row_at (board_of plan.base a) m).changed =
    λ m. elim (cases_eq m n) [
      | inl e ↦ subst (λ x. (row_at (board_of plan.base q) x).changed ≡ (row_at (board_of plan.base a) x).changed) (sym e)
          (ap (λ (l : Row). l.changed) (row_new plan.base a q n r there puts) ∙ same)
      | inr ne ↦ ap (λ (l : Row). l.changed) (row_old plan.base a q n r there puts m ne)
    ] in
    record {
      reached = reached;
      same_first = puts.store_first ∙ kept.same_first ∙ sym puts.first;
      all_states = puts.states ∙ kept.all_states ∙ sym puts.rows;
      all_entries = puts.lines ∙ kept.all_entries ∙ sym puts.rows;
      hand = hand;
      under_way = under_put plan.base a q n r there puts has kept.under_way;
      below = λ m lt. elim (cases_eq m n) [
        | inl e ↦ subst (λ x. (row_at (board_of plan.base q) x).changed ≤ q.latest) (sym e) (omega (arith, changed n, same, latest))
        | inr ne ↦ omega (arith, changed m, kept.below m (omega (arith, lt, one_more, least, ne)), latest)
      ];
      attained = elim (cases_lt a.latest r.changed) [
        | inl lt ↦ inr (n, omega (arith, least, one_more), omega (arith, latest, changed n, same))
        | inr le ↦ elim kept.attained [
          | inl z ↦ inl (omega (arith, latest, z, le))
          | inr x ↦ inr (x.0, omega (arith, x.1, one_more), omega (arith, latest, x.2, changed x.0, le))
        ]
      ];
    }
