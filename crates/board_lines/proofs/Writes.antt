-- Writes in the order of their keys: by their places, and by their keys.
use Rattle.std.proofs.Common.{◌≡◌, ◌≢◌, ℕ, zero, suc, ◌+◌, ◌<◌, ◌≤◌, cond, List, [], ◌∷◌, length, map, slice_get, Option, Some, None, Less, refl, sym, ap, subst, ◌∙◌, inl, inr, arith}
use Rattle.std.specs.Prelude.{option_map}
use Rattle.std.specs.FinMap.{get, get-entries, insert, remove, entries, entries_sorted}
use Rattle.std.specs.List.{AllByRecursion}
use Rattle.std.specs.List.Sorted.{IsStrictlySortedBy}
use Rattle.std.specs.Map.{keys_of}
use Rattle.std.specs.BTreeMap.{is_at}
use Rattle.std.proofs.lemmas.Option.{none-some, same_Some, slice_get_within}
use Rattle.std.proofs.lemmas.Bool.{cases_Bool, cases_eq}
use Rattle.std.proofs.lemmas.Map.Keys.{sorted_head, sorted_tail}
use Rattle.circ_records.specs.Keys.{key_cmp}
use Rattle.circ_records.specs.Records.{Entries, record_at}
use Rattle.circ_records.specs.declared.key.Key.{Key}
use Rattle.circ_records.specs.declared.record.Record.{Record}
use Rattle.read_set.specs.Settling.{Contents}
use Rattle.version_store.specs.Entries.{Shown, Line, AllOf, IsLeastLeft, shown_by}
use Rattle.version_store.proofs.Walks.{Rising, rising, look, not_below, not_both, head_or_tail, at_head, same_key}
use Rattle.board_steps.specs.Board.{Row}
use Rattle.board_steps.specs.Steps.{IsNextWrite, AllPlaced, IsNextLeft, NoneLeft}
use Rattle.board_steps.proofs.Entries.{cases_key, get_insert_same, get_insert_other, get_remove_other}
use Rattle.board_lines.specs.Acts.{IsPlacedAt, IsFirstApart}
use Rattle.board_lines.specs.Courses.{FirstPlaced, FirstPlacedBut}

-- the record at a key is at some index
pub stands : (ws : Entries) (q : Key) (u : Record) → record_at ws q ≡ Some u → (j : ℕ) × (slice_get ws j ≡ Some (q, u))
stands [] q u h = absurd (none-some u h)
stands (w ∷ ws) q u h = elim (head_or_tail q w.0 w.1 u ws h) [
  | inl i ↦ (0, ap (λ (k : Key). Some (k, w.1)) (sym i.0) ∙ ap (λ (x : Record). Some (q, x)) i.1)
  | inr t ↦ (let more = stands ws q u t in (suc more.0, more.1))
]

-- a write of rising keys is the record at its key
pub is_at_key : (ws : Entries) → Rising ws → (j : ℕ) (x : Key × Record) → slice_get ws j ≡ Some x → record_at ws x.0 ≡ Some x.1
is_at_key [] up j x h = absurd (none-some x h)
is_at_key (w ∷ ws) up zero x h = subst (λ (y : Key × Record). record_at (w ∷ ws) y.0 ≡ Some y.1) (same_Some w x h) (at_head w.0 w.1 ws)
is_at_key (w ∷ ws) up (suc j) x h =
    let tail : record_at ws x.0 ≡ Some x.1 = is_at_key ws up.1 j x h in
    elim (cases_Bool (is_at (key_cmp x.0) w.0)) [
      | inl e ↦ absurd (not_below w.0 x.0 (up.0 x.0 x.1 tail) (sym (same_key x.0 w.0 e)))
      | inr e ↦ ap (λ b. cond b (Some w.1) (record_at ws x.0)) e ∙ tail
    ]

-- a lesser key is before
pub stands_before : (ws : Entries) → Rising ws → (i j : ℕ) (x y : Key × Record) → slice_get ws i ≡ Some x → slice_get ws j ≡ Some y → key_cmp y.0 x.0 ≡ Less → j < i
stands_before [] up i j x y hi hj lt = absurd (none-some x hi)
stands_before (w ∷ ws) up zero zero x y hi hj lt = absurd (not_below y.0 x.0 lt (ap (λ (p : Key × Record). p.0) (sym (same_Some w y hj) ∙ same_Some w x hi)))
stands_before (w ∷ ws) up zero (suc j) x y hi hj lt =
    absurd (not_both y.0 x.0 lt (subst (λ (p : Key × Record). key_cmp p.0 y.0 ≡ Less) (same_Some w x hi) (up.0 y.0 y.1 (is_at_key ws up.1 j y hj))))
stands_before (w ∷ ws) up (suc i) zero x y hi hj lt = omega arith
stands_before (w ∷ ws) up (suc i) (suc j) x y hi hj lt = (let less = stands_before ws up.1 i j x y hi hj lt in omega (arith, less))

above_all : (x : Key) (ws : Entries) → AllByRecursion (λ y. key_cmp x y ≡ Less) (keys_of ws) → (q : Key) (u : Record) → record_at ws q ≡ Some u → key_cmp x q ≡ Less
above_all x [] all q u h = absurd (none-some u h)
above_all x (w ∷ ws) all q u h = elim (head_or_tail q w.0 w.1 u ws h) [
  | inl i ↦ subst (λ y. key_cmp x y ≡ Less) (sym i.0) all.0
  | inr t ↦ above_all x ws all.1 q u t
]

pub writes_rise : (ws : Entries) → IsStrictlySortedBy key_cmp (map (λ (e : Key × Record). e.0) ws) → Rising ws
writes_rise [] h = tt
writes_rise (w ∷ ws) h = (above_all w.0 ws (sorted_head key_cmp w.0 (keys_of ws) h), writes_rise ws (sorted_tail key_cmp w.0 (keys_of ws) h))

-- ---- a line that has entries at its first writes alone
pub there : (ws : Entries) (i : ℕ) → i < length ws → (x : Key × Record) × (slice_get ws i ≡ Some x)
there [] i within = absurd (omega (arith, within))
there (w ∷ ws) zero within = (w, refl)
there (w ∷ ws) (suc i) within = there ws i (omega (arith, within))

-- writes that have an entry each are no more than the entries
no_more : (n : ℕ) (ws : Entries) (es : List (Key × Shown)) → Rising ws → Rising es → n ≤ length ws
    → ((j : ℕ) (x : Key × Record) → j < n → slice_get ws j ≡ Some x → (u : Shown) × (look x.0 es ≡ Some u)) → n ≤ length es
no_more zero ws es up rise within have = omega arith
no_more (suc n) [] es up rise within have = absurd (omega (arith, within))
no_more (suc n) (w ∷ ws) [] up rise within have = (let one = have 0 w (omega arith) refl in absurd (none-some one.0 one.1))
no_more (suc n) (w ∷ ws) (e ∷ es) up rise within have =
    let more : n ≤ length es = no_more n ws es up.1 rise.1 (omega (arith, within)) (λ j x lt h. (
    let one = have (suc j) x (omega (arith, lt)) h in
    let above : key_cmp w.0 x.0 ≡ Less = up.0 x.0 x.1 (is_at_key ws up.1 j x h) in
    elim (head_or_tail x.0 e.0 e.1 one.0 es one.1) [
      | inl i ↦ (let own = have 0 w (omega arith) refl in
          absurd (elim (head_or_tail w.0 e.0 e.1 own.0 es own.1) [
            | inl k ↦ not_below w.0 x.0 above (k.0 ∙ sym i.0)
            | inr t ↦ not_both w.0 x.0 above (subst (λ q. key_cmp q w.0 ≡ Less) (sym i.0) (rise.0 w.0 own.0 t))
          ]))
      | inr t ↦ (one.0, t)
    ])) in
    omega (arith, more)

-- where there are no more entries than first writes that are placed, the next write has none
pub next_apart : (l : Line) (a : ℕ) (ws : Entries) (placed : ℕ) (x : Key × Record) → Rising ws → FirstPlaced l a ws placed → length (entries l) ≤ placed
    → slice_get ws placed ≡ Some x → IsPlacedAt l a x.0 → ⊥
next_apart l a ws placed x up first few here own =
    let within : placed < length ws = slice_get_within ws placed x here in
    let all : suc placed ≤ length (entries l) = no_more (suc placed) ws (entries l) up (rising (entries l) (entries_sorted l)) (omega (arith, within)) (λ j y lt h. elim (cases_eq j placed) [
      | inl e ↦ (
        own.0,
        sym (get-entries l y.0)
            ∙ subst (λ (p : Key × Record). get l p.0 ≡ Some own.0) (same_Some x y (sym here ∙ subst (λ m. slice_get ws m ≡ Some y) e h)) own.1,
      )
      | inr ne ↦ (let p = first j y (omega (arith, lt, ne)) h in (p.0, sym (get-entries l y.0) ∙ p.1))
    ]) in
    omega (arith, all, few)

-- ---- an entry of the attempt, by the attempt that the store returns
pub placed_if : (o : Option Shown) (own a : ℕ) → Some own ≡ option_map (λ (e : Shown). e.attempt) o → own ≡ a → (e : Shown) × (o ≡ Some e) × (e.attempt ≡ a)
placed_if None own a h e = absurd (none-some own (sym h))
placed_if (Some x) own a h e = (x, refl, sym (same_Some own x.attempt h) ∙ e)

pub own_if : (o : Option Shown) (own a : ℕ) → Some own ≡ option_map (λ (e : Shown). e.attempt) o → ((e : Shown) × (o ≡ Some e) × (e.attempt ≡ a)) → own ≡ a
own_if o own a h p = same_Some own p.0.attempt (h ∙ ap (option_map (λ (e : Shown). e.attempt)) p.1) ∙ p.2

pub none_if_none : (o : Option Shown) (a : ℕ) → None ≡ option_map (λ (e : Shown). e.attempt) o → ((e : Shown) × (o ≡ Some e) × (e.attempt ≡ a)) → ⊥
none_if_none o a h p = none-some p.0.attempt (h ∙ ap (option_map (λ (e : Shown). e.attempt)) p.1)

-- ---- the acts
module _ (r : Row) (l : Line) (is : r.entries ≡ l) (v : Contents) (up : Rising v.writes) where
  own_row : (k : Key) → IsPlacedAt l v.attempt k → IsPlacedAt r.entries v.attempt k
  own_row k h = subst (λ (x : Line). IsPlacedAt x v.attempt k) (sym is) h

  own_line : (k : Key) → IsPlacedAt r.entries v.attempt k → IsPlacedAt l v.attempt k
  own_line k h = subst (λ (x : Line). IsPlacedAt x v.attempt k) is h

  pub next_is : (i : ℕ) (x : Key × Record) → slice_get v.writes i ≡ Some x → IsFirstApart l v.attempt v.writes (Some i) → (value : Record) × IsNextWrite r v x.0 value
  next_is i x at first = (
    x.1,
    record {
      written = is_at_key v.writes up i x at;
      apart = λ h. first.0.2 (subst (λ (y : Key × Record). IsPlacedAt l v.attempt y.0) (same_Some x first.0.0 (sym at ∙ first.0.1)) (own_line x.0 h));
      least = λ q u lt h. (let s = stands v.writes q u h in
          own_row q (first.1 s.0 (q, u) (stands_before v.writes up i s.0 x (q, u) at s.1 lt) s.1));
    },
  )

  pub all_are : IsFirstApart l v.attempt v.writes None → AllPlaced r v
  all_are first q u h = (let s = stands v.writes q u h in own_row q (first s.0 (q, u) s.1))

  pub left_is : (k : Key) → IsLeastLeft l v.attempt k → IsNextLeft r v k
  left_is k h = record {
    left = subst (λ (x : Line). (e : Shown) × (get x k ≡ Some e) × (e.attempt ≢ v.attempt)) (sym is) h.0;
    least = λ q e lt g. h.1 q e lt (ap (λ (x : Line). get x q) (sym is) ∙ g);
  }

  pub none_is : AllOf l v.attempt → NoneLeft r v
  none_is h q e g = h q e (ap (λ (x : Line). get x q) (sym is) ∙ g)

-- ---- the first writes are placed
-- the next write is placed: it is one more
pub comes_to : (l : Line) (a : ℕ) (ws : Entries) (i count : ℕ) (x : Key × Record) → slice_get ws i ≡ Some x → count ≡ i + 1 → IsFirstApart l a ws (Some i) → FirstPlacedBut l a ws x.0 count
comes_to l a ws i count x at more first j y lt h = elim (cases_eq j i) [
  | inl e ↦ inl (ap (λ (p : Key × Record). p.0) (sym (same_Some x y (sym at ∙ subst (λ m. slice_get ws m ≡ Some y) e h))))
  | inr ne ↦ inr (first.1 j y (omega (arith, lt, more, ne)) h)
]

pub first_inserted : (l : Line) (a : ℕ) (v : Contents) (k : Key) (ws : Entries) (count : ℕ) → FirstPlacedBut l a ws k count → FirstPlaced (insert l k (shown_by a v)) a ws count
first_inserted l a v k ws count but j x lt h = elim (cases_key x.0 k) [
  | inl e ↦ (shown_by a v, subst (λ (q : Key). get (insert l k (shown_by a v)) q ≡ Some (shown_by a v)) (sym e) (get_insert_same l k (shown_by a v)), refl)
  | inr ne ↦ elim (but j x lt h) [
    | inl e ↦ absurd (ne e)
    | inr p ↦ (p.0, get_insert_other l k (shown_by a v) x.0 ne ∙ p.1, p.2)
  ]
]

-- an entry that is lifted is of another attempt than the writes that are placed
pub first_removed : (r : Row) (v : Contents) (k : Key) → Rising v.writes → AllPlaced r v → IsNextLeft r v k → (count : ℕ) → FirstPlaced (remove r.entries k) v.attempt v.writes count
first_removed r v k up all next count j x lt h =
    let own : IsPlacedAt r.entries v.attempt x.0 = all x.0 x.1 (is_at_key v.writes up j x h) in
    elim (cases_key x.0 k) [
      | inl e ↦
          (let left = next.left in
          let here : get r.entries k ≡ Some own.0 = subst (λ (q : Key). get r.entries q ≡ Some own.0) e own.1 in
          absurd (left.2 (ap (λ (s : Shown). s.attempt) (same_Some left.0 own.0 (sym left.1 ∙ here)) ∙ own.2)))
      | inr ne ↦ (own.0, get_remove_other r.entries k x.0 ne ∙ own.1, own.2)
    ]
