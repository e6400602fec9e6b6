-- Nodes and the flags below them.
use Rattle.std.proofs.Common.{◌≡◌, ◌≢◌, ℕ, zero, suc, ◌+◌, ◌-◌, ◌*◌, ◌/◌, ◌%◌, ◌^◌, ◌<◌, ◌≤◌, Bool, true, false, ◌||◌, List, length, set, get_or, refl, sym, ap, subst, ◌∙◌, inl, inr, ap₂, arith, length-set, get_or-set_same, get_or-set_other, true≢false, Some}
use Rattle.std.proofs.lemmas.Bool.{cases_eq, cases_lt, lt-ltb, le-ltb}
use Rattle.std.proofs.lemmas.List.{get_or_past}
use Rattle.speculate.specs.Trees.{node_at, joined, AllBut, IsPower, IsTree, IsLeastFrom}
use Rattle.speculate.specs.Devices.Rows.{below, IsAbove, IsInRow, IsSet, NoneSet, IsNext}

-- ---- numbers below a node
pub below_le : (i j k : ℕ) → i ≤ j → below i k ≤ below j k
below_le i j zero h = h
below_le i j (suc k) h = below_le (2 * i) (2 * j) k (omega (arith, h))

pub below_lt : (i j k : ℕ) → below i k < below j k → i < j
below_lt i j k h = elim (cases_lt i j) [
  | inl lt ↦ lt
  | inr le ↦ (let g = below_le j i k le in absurd (omega (arith, g, h)))
]

pub below_past : (i k : ℕ) → i ≤ below i k
below_past i zero = omega arith
below_past i (suc k) = omega (arith, below_past (2 * i) k)

pub below_zero : (k : ℕ) → below 0 k ≡ 0
below_zero zero = refl
below_zero (suc k) = below_zero k

pub below_double : (i k : ℕ) → below (2 * i) k ≡ 2 * below i k
below_double i zero = refl
below_double i (suc k) = below_double (2 * i) k

pub below_add : (i j k : ℕ) → below (i + j) k ≡ below i k + below j k
below_add i j zero = refl
below_add i j (suc k) = let e : 2 * (i + j) ≡ 2 * i + 2 * j = omega arith in subst (λ x. below x k ≡ below (2 * i) k + below (2 * j) k) (sym e) (below_add (2 * i) (2 * j) k)

-- ---- nodes
pub node_inner : (flags nodes : List Bool) (i : ℕ) → i < length nodes → node_at flags nodes i ≡ get_or nodes i false
node_inner flags nodes i lt = rw (lt-ltb i (length nodes) lt) refl

pub node_flag : (flags nodes : List Bool) (i : ℕ) → length nodes ≤ i → node_at flags nodes i ≡ get_or flags (i - length nodes) false
node_flag flags nodes i le = rw (le-ltb i (length nodes) le) refl

or_false : (a b : Bool) → a || b ≡ false → (a ≡ false) × (b ≡ false)
or_false true b h = absurd (true≢false h)
or_false false b h = (refl, h)

or_true : (a b : Bool) → a || b ≡ true → a ≡ false → b ≡ true
or_true true b h e = absurd (true≢false e)
or_true false b h e = h

some_true : (a b : Bool) → b ≡ true → a || b ≡ true
some_true true b h = refl
some_true false b h = h

-- another node, or another flag
pub node_set_other : (flags nodes : List Bool) (n i : ℕ) (v : Bool) → i ≢ n → node_at flags (set nodes n v) i ≡ node_at flags nodes i
node_set_other flags nodes n i v ne =
    let same : length (set nodes n v) ≡ length nodes = length-set nodes n v in
    elim (cases_lt i (length nodes)) [
      | inl lt ↦ node_inner flags (set nodes n v) i (omega (arith, lt, same)) ∙ get_or-set_other nodes n i v false ne ∙ sym (node_inner flags nodes i lt)
      | inr le ↦ node_flag flags (set nodes n v) i (omega (arith, le, same)) ∙ ap (λ x. get_or flags (i - x) false) same ∙ sym (node_flag flags nodes i le)
    ]

pub flag_set_other : (flags nodes : List Bool) (p i : ℕ) (v : Bool) → i ≢ length nodes + p → node_at (set flags p v) nodes i ≡ node_at flags nodes i
flag_set_other flags nodes p i v ne = elim (cases_lt i (length nodes)) [
  | inl lt ↦ node_inner (set flags p v) nodes i lt ∙ sym (node_inner flags nodes i lt)
  | inr le ↦ node_flag (set flags p v) nodes i le ∙ get_or-set_other flags p (i - length nodes) v false (λ e. ne (omega (arith, e, le))) ∙ sym (node_flag flags nodes i le)
]

joined_is : (flags others nodes more : List Bool) (i : ℕ) → node_at flags nodes (2 * i) ≡ node_at others more (2 * i) → node_at flags nodes (2 * i + 1) ≡ node_at others more (2 * i + 1) → joined flags nodes i ≡ joined others more i
joined_is flags others nodes more i e f = ap₂ (λ a b. a || b) e f

-- a node is mended: now only the one above it may be wrong
pub mended : (flags nodes : List Bool) (n : ℕ) → 1 ≤ n → n < length nodes → AllBut flags nodes n → AllBut flags (set nodes n (joined flags nodes n)) (n / 2)
mended flags nodes n some within each i one lt ne =
    let v = joined flags nodes n in
    let inside : i < length nodes = omega (arith, lt, length-set nodes n v) in
    let off : (j : ℕ) → j ≢ n → node_at flags (set nodes n v) j ≡ node_at flags nodes j = λ j h. node_set_other flags nodes n j v h in
    let below_is : joined flags (set nodes n v) i ≡ joined flags nodes i =
    joined_is flags flags (set nodes n v) nodes i (off (2 * i) (λ e. ne (omega (arith, e)))) (off (2 * i + 1) (λ e. ne (omega (arith, e)))) in
    elim (cases_eq i n) [
      | inl e ↦ subst (λ x. get_or (set nodes n v) x false ≡ v) (sym e) (get_or-set_same nodes n v false within) ∙ ap (joined flags nodes) (sym e) ∙ sym below_is
      | inr other ↦ get_or-set_other nodes n i v false other ∙ each i one inside other ∙ sym below_is
    ]

-- a flag is changed: only the node above it may be wrong
pub flag_changed : (flags nodes : List Bool) (p : ℕ) (v : Bool) → AllBut flags nodes 0 → AllBut (set flags p v) nodes ((length nodes + p) / 2)
flag_changed flags nodes p v each i one lt ne =
    each i one lt (λ e. omega (arith, e, one))
    ∙ sym (joined_is (set flags p v) flags nodes nodes i
    (flag_set_other flags nodes p (2 * i) v (λ e. ne (omega (arith, e)))) (flag_set_other flags nodes p (2 * i + 1) v (λ e. ne (omega (arith, e)))))

-- one of the two nodes below a node is set
set_below : (flags nodes : List Bool) (n : ℕ) → node_at flags nodes n ≡ true → joined flags nodes (n / 2) ≡ true
set_below flags nodes n e = elim (cases_eq n (2 * (n / 2))) [
  | inl same ↦ ap (λ b. b || node_at flags nodes (2 * (n / 2) + 1)) (subst (λ x. node_at flags nodes x ≡ true) same e)
  | inr other ↦ some_true (node_at flags nodes (2 * (n / 2))) _ (subst (λ x. node_at flags nodes x ≡ true) (omega (arith, other)) e)
]

-- a node is set that has a set one below it: now only the one above it may be wrong
pub raised : (flags nodes : List Bool) (n : ℕ) → 1 ≤ n → n < length nodes → AllBut flags nodes n → joined flags nodes n ≡ true → AllBut flags (set nodes n true) (n / 2)
raised flags nodes n some within each e = subst (λ v. AllBut flags (set nodes n v) (n / 2)) e (mended flags nodes n some within each)

pub raised_below : (flags nodes : List Bool) (n : ℕ) → n < length nodes → joined flags (set nodes n true) (n / 2) ≡ true
raised_below flags nodes n within =
    set_below flags (set nodes n true) n
    (node_inner flags (set nodes n true) n (omega (arith, within, length-set nodes n true)) ∙ get_or-set_same nodes n true false within)

pub pow_suc : (h : ℕ) → 2 ^ suc h ≡ 2 * 2 ^ h
pow_suc h = omega arith

-- a node is cleared below which none is set: now only the one above it may be wrong
pub lowered : (flags nodes : List Bool) (n : ℕ) → 1 ≤ n → n < length nodes → AllBut flags nodes n → joined flags nodes n ≡ false → AllBut flags (set nodes n false) (n / 2)
lowered flags nodes n some within each e = subst (λ v. AllBut flags (set nodes n v) (n / 2)) e (mended flags nodes n some within each)

-- and that one is set still
pub set_still : (flags nodes : List Bool) (n : ℕ) → 1 ≤ n → n < length nodes → AllBut flags nodes n → get_or nodes n false ≡ true → IsSet (set nodes n false) (n / 2)
set_still flags nodes n some within each e one =
    get_or-set_other nodes n (n / 2) false false (λ x. omega (arith, x, some))
    ∙ each (n / 2) one (omega (arith, within)) (λ x. omega (arith, x, some))
    ∙ set_below flags nodes n (node_inner flags nodes n within ∙ e)

-- a node that is set stays, where one below it is set
pub right_already : (flags nodes : List Bool) (n : ℕ) → AllBut flags nodes n → get_or nodes n false ≡ true → joined flags nodes n ≡ true → AllBut flags nodes 0
right_already flags nodes n each e j i one lt ne = elim (cases_eq i n) [
  | inl same ↦ subst (λ x. get_or nodes x false ≡ joined flags nodes x) (sym same) (e ∙ sym j)
  | inr other ↦ each i one lt other
]

-- the node above a flag that is set is set
pub set_above : (flags nodes : List Bool) (p : ℕ) → AllBut flags nodes 0 → p < length nodes → get_or flags p false ≡ true → IsSet nodes ((length nodes + p) / 2)
set_above flags nodes p each within e one =
    each ((length nodes + p) / 2) one (omega (arith, within)) (λ x. omega (arith, x, one))
    ∙ set_below flags nodes (length nodes + p)
    (node_flag flags nodes (length nodes + p) (omega arith) ∙ ap (λ x. get_or flags x false) (omega arith) ∙ e)

-- the nodes from one on are right, and the one before it is made
pub made_from : (flags nodes : List Bool) (n : ℕ) → 1 ≤ n → n < length nodes
    → ((i : ℕ) → n < i → i < length nodes → get_or nodes i false ≡ joined flags nodes i)
    → (i : ℕ) → n ≤ i → i < length nodes → get_or (set nodes n (joined flags nodes n)) i false ≡ joined flags (set nodes n (joined flags nodes n)) i
made_from flags nodes n some within each i le lt =
    let v = joined flags nodes n in
    let off : (j : ℕ) → j ≢ n → node_at flags (set nodes n v) j ≡ node_at flags nodes j = λ j h. node_set_other flags nodes n j v h in
    let below_is : joined flags (set nodes n v) i ≡ joined flags nodes i =
    joined_is flags flags (set nodes n v) nodes i (off (2 * i) (λ e. omega (arith, e, le, some))) (off (2 * i + 1) (λ e. omega (arith, e, le, some))) in
    elim (cases_eq i n) [
      | inl e ↦ subst (λ x. get_or (set nodes n v) x false ≡ v) (sym e) (get_or-set_same nodes n v false within) ∙ ap (joined flags nodes) (sym e) ∙ sym below_is
      | inr other ↦ get_or-set_other nodes n i v false other ∙ each i (omega (arith, le, other)) lt ∙ sym below_is
    ]

-- ---- what is below a node
sum : (i : ℕ) → 2 * (i + 1) ≡ 2 * i + 1 + 1
sum i = omega arith

-- a node that has flags in a row below it isn't one of the flags
inner_of : (nodes : List Bool) (i k : ℕ) → IsAbove nodes i (suc k) → i < length nodes
inner_of nodes i k h = let g = below_past (2 * (i + 1)) k in omega (arith, h.high, g)

pow_some : (h : ℕ) → 1 ≤ 2 ^ h
pow_some zero = omega arith
pow_some (suc h) = omega (arith, pow_some h)

pub power_some : (n : ℕ) → IsPower n → 1 ≤ n
power_some n p = let g = pow_some p.0 in omega (arith, g, p.1)

pub one_of : (nodes : List Bool) (i k : ℕ) → 1 ≤ length nodes → IsAbove nodes i k → 1 ≤ i
one_of nodes zero k some h = absurd (omega (arith, some, h.low, below_zero k))
one_of nodes (suc i) k some h = omega arith

left_of : (nodes : List Bool) (i k : ℕ) → IsAbove nodes i (suc k) → IsAbove nodes (2 * i) k
left_of nodes i k h = let g = below_le (2 * i + 1) (2 * (i + 1)) k (omega arith) in record { low = h.low; high = omega (arith, h.high, g) }

right_of : (nodes : List Bool) (i k : ℕ) → IsAbove nodes i (suc k) → IsAbove nodes (2 * i + 1) k
right_of nodes i k h =
    let g = below_le (2 * i) (2 * i + 1) k (omega arith) in
    record { low = omega (arith, h.low, g); high = subst (λ x. below x k ≤ 2 * length nodes) (sum i) h.high }

node_joined : (flags nodes : List Bool) (i k : ℕ) → IsTree flags nodes → IsAbove nodes i (suc k) → node_at flags nodes i ≡ joined flags nodes i
node_joined flags nodes i k tree above =
    let some = one_of nodes i (suc k) (power_some (length nodes) tree.power) above in
    node_inner flags nodes i (inner_of nodes i k above) ∙ tree.each i some (inner_of nodes i k above) (λ e. omega (arith, e, some))

-- a node that isn't set has no flag below it
pub none_below : (flags nodes : List Bool) (k i : ℕ) → IsTree flags nodes → IsAbove nodes i k → node_at flags nodes i ≡ false → NoneSet flags nodes (below i k) (below (i + 1) k)
none_below flags nodes zero i tree above h p from to =
    let e : i - length nodes ≡ p = omega (arith, from, to) in
    subst (λ x. get_or flags x false ≡ false) e (sym (node_flag flags nodes i above.low) ∙ h)
none_below flags nodes (suc k) i tree above h p from to =
    let two = or_false _ _ (sym (node_joined flags nodes i k tree above) ∙ h) in
    elim (cases_lt (length nodes + p) (below (2 * i + 1) k)) [
      | inl lt ↦ none_below flags nodes k (2 * i) tree (left_of nodes i k above) two.0 p from lt
      | inr le ↦ none_below flags nodes k (2 * i + 1) tree (right_of nodes i k above) two.1 p le (subst (λ x. length nodes + p < below x k) (sum i) to)
    ]

-- no flag is set from a number on, up to another, and from there up to a third
pub none_on : (flags nodes : List Bool) (a b c : ℕ) → NoneSet flags nodes a b → NoneSet flags nodes b c → NoneSet flags nodes a c
none_on flags nodes a b c first then p from to = elim (cases_lt (length nodes + p) b) [
  | inl lt ↦ first p from lt
  | inr le ↦ then p le to
]

-- ---- down
down_left : (flags nodes : List Bool) (from i k : ℕ) → i < length nodes → (h : IsNext flags nodes from i) → h.rows ≡ k → node_at flags nodes (2 * i) ≡ true → IsNext flags nodes from (2 * i)
down_left flags nodes from i zero lt h e set = let low : length nodes ≤ below i zero = subst (λ x. length nodes ≤ below i x) e h.above.low in absurd (omega (arith, lt, low))
down_left flags nodes from i (suc k) lt h e set =
    let above : IsAbove nodes i (suc k) = subst (IsAbove nodes i) e h.above in
    record {
      rows = k;
      above = left_of nodes i k above;
      set = set;
      past = subst (λ x. length nodes + from ≤ below i x) e h.past;
      before = subst (λ x. NoneSet flags nodes (length nodes + from) (below i x)) e h.before;
    }

down_right : (flags nodes : List Bool) (from i k : ℕ) → IsTree flags nodes → i < length nodes → (h : IsNext flags nodes from i) → h.rows ≡ k → node_at flags nodes (2 * i) ≡ false → IsNext flags nodes from (2 * i + 1)
down_right flags nodes from i zero tree lt h e bare = let low : length nodes ≤ below i zero = subst (λ x. length nodes ≤ below i x) e h.above.low in absurd (omega (arith, lt, low))
down_right flags nodes from i (suc k) tree lt h e bare =
    let above : IsAbove nodes i (suc k) = subst (IsAbove nodes i) e h.above in
    let past : length nodes + from ≤ below i (suc k) = subst (λ x. length nodes + from ≤ below i x) e h.past in
    let before : NoneSet flags nodes (length nodes + from) (below i (suc k)) = subst (λ x. NoneSet flags nodes (length nodes + from) (below i x)) e h.before in
    let more = below_le (2 * i) (2 * i + 1) k (omega arith) in
    record {
      rows = k;
      above = right_of nodes i k above;
      set = or_true _ _ (sym (node_joined flags nodes i k tree above) ∙ h.set) bare;
      past = omega (arith, past, more);
      before = none_on flags nodes _ (below (2 * i) k) _ before (none_below flags nodes k (2 * i) tree (left_of nodes i k above) bare);
    }

-- the node on the left below a set node is set, or that on the right
pub go_left : (flags nodes : List Bool) (from i : ℕ) → i < length nodes → IsNext flags nodes from i → node_at flags nodes (2 * i) ≡ true → IsNext flags nodes from (2 * i)
go_left flags nodes from i lt h set = down_left flags nodes from i h.rows lt h refl set

pub go_right : (flags nodes : List Bool) (from i : ℕ) → IsTree flags nodes → i < length nodes → IsNext flags nodes from i → node_at flags nodes (2 * i) ≡ false → IsNext flags nodes from (2 * i + 1)
go_right flags nodes from i tree lt h bare = down_right flags nodes from i h.rows tree lt h refl bare

at_flag : (flags nodes : List Bool) (from i k : ℕ) → 1 ≤ length nodes → length nodes ≤ i → (h : IsNext flags nodes from i) → h.rows ≡ k → IsLeastFrom flags from (Some (i - length nodes))
at_flag flags nodes from i zero some le h e =
    let past : length nodes + from ≤ i = subst (λ x. length nodes + from ≤ below i x) e h.past in
    let before : NoneSet flags nodes (length nodes + from) i = subst (λ x. NoneSet flags nodes (length nodes + from) (below i x)) e h.before in
    (omega (arith, past), sym (node_flag flags nodes i le) ∙ h.set, λ p a b. before p (omega (arith, a)) (omega (arith, b, le)))
at_flag flags nodes from i (suc k) some le h e =
    let lt : i < length nodes = inner_of nodes i k (subst (IsAbove nodes i) e h.above) in
    absurd (omega (arith, lt, le))

-- a set node that is a flag
pub flag_found : (flags nodes : List Bool) (from i : ℕ) → IsTree flags nodes → length nodes ≤ i → IsNext flags nodes from i → IsLeastFrom flags from (Some (i - length nodes))
flag_found flags nodes from i tree le h = at_flag flags nodes from i h.rows (power_some (length nodes) tree.power) le h refl

-- ---- on to the next node
-- the node is the last of its row, or there is another after it
module _ (flags nodes : List Bool) (i width first : ℕ) (tree : IsTree flags nodes) (h : IsInRow nodes i width first) where
  pub next_first : first + width ≡ below (i + 1) h.rows
  next_first = omega (arith, h.at, h.wide, below_add i 1 h.rows)

  pub next_within : first + width ≤ 2 * length nodes
  next_within = omega (arith, next_first, h.above.high)

  -- the flags below it are not set either
  pub next_none : (from : ℕ) → node_at flags nodes i ≡ false → NoneSet flags nodes from first → NoneSet flags nodes from (first + width)
  next_none from bare before = none_on flags nodes from first (first + width) before
      (subst (λ x. NoneSet flags nodes first x) (sym next_first) (subst (λ x. NoneSet flags nodes x (below (i + 1) h.rows)) (sym h.at)
      (none_below flags nodes h.rows i tree h.above bare)))

  module _ (more : first + width ≢ 2 * length nodes) where
    all_twice : below (2 * h.row) h.rows ≡ 2 * length nodes
    all_twice = below_double h.row h.rows ∙ ap (λ x. 2 * x) (sym h.all)

    few : i + 1 < 2 * h.row
    few = below_lt (i + 1) (2 * h.row) h.rows (omega (arith, all_twice, next_first, next_within, more))

    above : IsAbove nodes (i + 1) h.rows
    above =
        let a = below_le i (i + 1) h.rows (omega arith) in
        let b = below_le (i + 1 + 1) (2 * h.row) h.rows (omega (arith, few)) in
        record { low = omega (arith, h.above.low, a); high = omega (arith, b, all_twice) }

    pub next_in_row : IsInRow nodes (i + 1) width (first + width)
    next_in_row = record { rows = h.rows; row = h.row; power = h.power; all = h.all; wide = h.wide; at = next_first; above = above }

    least : h.row ≤ i
    least = elim (cases_lt i h.row) [
      | inl lt ↦
          (let a = below_le (i + 1) h.row h.rows (omega (arith, lt)) in
          let b = below_past i h.rows in
          let c : below (i + 1) h.rows ≡ below i h.rows + below 1 h.rows = below_add i 1 h.rows in
          let d = below_past 1 h.rows in
          absurd (omega (arith, a, c, d, h.all, h.above.low)))
      | inr le ↦ le
    ]

    -- an even node goes up to the one above it
    up : (j : ℕ) → h.row ≡ 2 ^ j → (m : ℕ) → i + 1 ≡ 2 * m → IsInRow nodes m (2 * width) (first + width)
    up zero e m even = absurd (omega (arith, e, few, least))
    up (suc j) e m even =
        let half : h.row ≡ 2 * 2 ^ j = e ∙ pow_suc j in
        record {
          rows = suc h.rows;
          row = 2 ^ j;
          power = (j, refl);
          all = h.all ∙ ap (λ x. below x h.rows) half;
          wide = ap (λ x. 2 * x) h.wide ∙ sym (below_double 1 h.rows);
          at = next_first ∙ ap (λ x. below x h.rows) even;
          above = record {
            low = subst (λ x. length nodes ≤ below x h.rows) even above.low;
            high = (let b = below_le (2 * (m + 1)) (2 * h.row) h.rows (omega (arith, few, even, half)) in omega (arith, b, all_twice));
          };
        }

    pub next_up : (i + 1) % 2 ≡ 0 → IsInRow nodes ((i + 1) / 2) (width * 2) (first + width)
    next_up even =
        subst (λ x. IsInRow nodes ((i + 1) / 2) x (first + width)) (omega arith)
        (up h.power.0 h.power.1 ((i + 1) / 2) (omega (arith, even)))

-- the first flag's node
pub in_row_first : (flags nodes : List Bool) (from : ℕ) → IsTree flags nodes → from < length nodes → IsInRow nodes (length nodes + from) 1 (length nodes + from)
in_row_first flags nodes from tree lt = record {
  rows = 0;
  row = length nodes;
  power = tree.power;
  all = refl;
  wide = refl;
  at = refl;
  above = record { low = omega arith; high = omega (arith, lt) };
}

pub wide_some : (nodes : List Bool) (i width first : ℕ) → IsInRow nodes i width first → 1 ≤ width
wide_some nodes i width first h = let b = below_past 1 h.rows in omega (arith, b, h.wide)

-- no flag is set from a position on, where none is up to the end of the flags' row
pub none_past : (flags nodes : List Bool) (from to : ℕ) → to ≡ 2 * length nodes → IsTree flags nodes → NoneSet flags nodes (length nodes + from) to → (p : ℕ) → from ≤ p → get_or flags p false ≡ false
none_past flags nodes from to e tree none p le = elim (cases_lt (length nodes + p) to) [
  | inl lt ↦ none p (omega (arith, le)) lt
  | inr past ↦ get_or_past flags p false (omega (arith, past, e, tree.covers))
]

-- ---- the node on top
below_one : (h : ℕ) → below 1 h ≡ 2 ^ h
below_one zero = refl
below_one (suc h) = below_double 1 h ∙ ap (λ n. 2 * n) (below_one h) ∙ sym (pow_suc h)

-- where it isn't set, no flag is
pub none_at_all : (flags nodes : List Bool) → IsTree flags nodes → node_at flags nodes 1 ≡ false → (p : ℕ) → get_or flags p false ≡ false
none_at_all flags nodes t bare p =
    let h = t.power.0 in
    let e : below 1 h ≡ length nodes = below_one h ∙ sym t.power.1 in
    let d : below 2 h ≡ 2 * length nodes = below_double 1 h ∙ ap (λ n. 2 * n) e in
    let up : IsAbove nodes 1 h = record { low = omega (arith, e); high = omega (arith, d) } in
    none_past flags nodes 0 (2 * length nodes) refl t (λ q low high. none_below flags nodes h 1 t up bare q (omega (arith, e)) (omega (arith, d))) p (omega arith)
