-- Entries that rise by key: where a key is or goes, and what is left of the order with one more.
use Rattle.std.proofs.Common.{◌≡◌, ◌∙◌, ◌++◌, ◌+◌, ◌<◌, ◌≤◌, ℕ, zero, suc, Bool, true, false, cond, List, [], ◌∷◌, length, map, take, drop, get_or, Option, Some, None, Result, Ok, Err, HoldsAt, arith, refl, sym, ap, subst, append-nil, append_assoc, rules, take_all, drop_of_length-le}
use Rattle.std.specs.BTreeMap.{insert_entry}
use Rattle.std.specs.Cmp.{eq_by_cmp_equiv}
use Rattle.std.specs.List.{AllByRecursion, AllWithin, insert, slice_set}
use Rattle.std.specs.List.Sorted.{IsBinarySearchResult, IsNonDecreasingBy, IsSearchInRange, IsStrictlySortedBy}
use Rattle.std.specs.Option.{option_or, unwrap_or}
use Rattle.std.specs.Prelude.{IsSome, slice_get}
use Rattle.std.specs.Ordering.{eq_by_cmp, is_eq, is_gt, is_lt, match_ordering, ordering_index, ordering_reverse}
use Rattle.std.specs.declared.cmp.Ordering.{Ordering}
use Rattle.std.specs.declared.cmp.Ordering.TheVariants.{Less, Equal, Greater}
use Rattle.circ_records.specs.Devices.Behind.{IsBehind}
use Rattle.circ_records.specs.Devices.Positions.{position_from}
use Rattle.circ_records.specs.Keys.{key_cmp, key_cmp_total, key_cmp-IsAntisymmetric}
use Rattle.circ_records.specs.Records.{AreRising, Entries, record_at}
use Rattle.circ_records.specs.declared.key.Key.{Key}
use Rattle.circ_records.specs.declared.record.Record.{Record}
use Rattle.circ_records.proofs.SameTexts.{tie}

abbrev keys_in : Entries → List Key
keys_in es = map (λ e. e.0) es

-- a key and all keys after it
abbrev IsBelow : Key → Entries → Type 0
IsBelow k es = AllByRecursion (λ y. key_cmp k y ≡ Less) (keys_in es)

pub turned : (j k : Key) → key_cmp k j ≡ Greater → key_cmp j k ≡ Less
turned j k h = key_cmp_total.antisymm j k ∙ ap ordering_reverse h

below-all : (k j : Key) (es : Entries) → key_cmp k j ≡ Less → IsBelow j es → IsBelow k es
below-all k j [] lt all = tt
below-all k j (e ∷ es) lt all = (key_cmp_total.trans k j e.0 lt all.0, below-all k j es lt all.1)

below-step : (o : Ordering) (j : Key) (e : Key × Record) (es : Entries) (k : Key) (r : Record)
    → key_cmp j k ≡ Less → IsBelow j (e ∷ es) → IsBelow j (insert_entry key_cmp es k r)
    → IsBelow j (match_ordering o ((k, r) ∷ e ∷ es) ((e.0, r) ∷ es) (e ∷ insert_entry key_cmp es k r))
below-step Less j e es k r lt all more = (lt, all)
below-step Equal j e es k r lt all more = all
below-step Greater j e es k r lt all more = (all.0, more)

below-more : (j : Key) (es : Entries) (k : Key) (r : Record) → key_cmp j k ≡ Less → IsBelow j es
    → IsBelow j (insert_entry key_cmp es k r)
below-more j [] k r lt all = (lt, tt)
below-more j (e ∷ es) k r lt all = below-step (key_cmp k e.0) j e es k r lt all (below-more j es k r lt all.1)

rises-step : (o : Ordering) (e : Key × Record) (es : Entries) (k : Key) (r : Record)
    → key_cmp k e.0 ≡ o → IsBelow e.0 es → AreRising es → AreRising (insert_entry key_cmp es k r)
    → AreRising (match_ordering o ((k, r) ∷ e ∷ es) ((e.0, r) ∷ es) (e ∷ insert_entry key_cmp es k r))
unfolding IsStrictlySortedBy
rises-step Less e es k r at all s more = ((at, below-all k e.0 es at all), (all, s))
rises-step Equal e es k r at all s more = (all, s)
rises-step Greater e es k r at all s more = (below-more e.0 es k r (turned e.0 k at) all, more)

-- with one record more the keys still rise
pub rises-more : (es : Entries) (k : Key) (r : Record) → AreRising es → AreRising (insert_entry key_cmp es k r)
unfolding IsStrictlySortedBy
rises-more [] k r s = (tt, tt)
rises-more (e ∷ es) k r s = rises-step (key_cmp k e.0) e es k r refl s.0 s.1 (rises-more es k r s.1)

rises-behind : (front back : Entries) → AreRising (front ++ back) → AreRising back
unfolding IsStrictlySortedBy
rises-behind [] back s = s
rises-behind (e ∷ front) back s = rises-behind front back s.1

first-of : (k : Key) (r : Record) (es : Entries) → AreRising ((k, r) ∷ es) → insert_entry key_cmp es k r ≡ (k, r) ∷ es
unfolding IsStrictlySortedBy
first-of k r [] s = refl
first-of k r (e ∷ es) s = rw s.0.0 refl

-- a key below all others goes first
pub goes-first : (front : Entries) (k : Key) (r : Record) (es : Entries)
    → AreRising (front ++ (k, r) ∷ es) → insert_entry key_cmp es k r ≡ (k, r) ∷ es
goes-first front k r es s = first-of k r es (rises-behind front ((k, r) ∷ es) s)

-- the last of a list moves to the front of the entries after it
pub moved : (front so_far whole left new : Entries) (k : Key) (r : Record) → AreRising whole
    → left ≡ front ++ (k, r) ∷ [] → left ++ so_far ≡ whole → new ≡ insert_entry key_cmp so_far k r
    → front ++ new ≡ whole
moved front so_far whole left new k r rising last same put =
    let all : front ++ (k, r) ∷ so_far ≡ whole = sym (append_assoc front ((k, r) ∷ []) so_far) ∙ ap (λ (es : Entries). es ++ so_far) (sym last) ∙ same in
    ap (λ (es : Entries). front ++ es) (put ∙ goes-first front k r so_far (subst AreRising (sym all) rising)) ∙ all

-- What goes to the position of a key that is in the list, counted from a number on
record Takes (i : ℕ) (es : Entries) (k : Key) (r : Record) (position : ℕ) : Type 0 where
  n : ℕ
  at : position ≡ i + n
  within : n < length es
  same : slice_set es n (k, r) ≡ insert_entry key_cmp es k r

takes-step : (o : Ordering) (i : ℕ) (e : Key × Record) (es : Entries) (k : Key) (r : Record)
    (position : ℕ) → key_cmp k e.0 ≡ o
    → match_ordering o (Err i) (Ok i) (position_from (i + 1) k es) ≡ Ok position
    → (position_from (i + 1) k es ≡ Ok position → Takes (i + 1) es k r position)
    → (n : ℕ) × (position ≡ i + n) × (n < length (e ∷ es))
    × (slice_set (e ∷ es) n (k, r) ≡ match_ordering o ((k, r) ∷ e ∷ es) ((e.0, r) ∷ es)
    (e ∷ insert_entry key_cmp es k r))
takes-step Less i e es k r position at h more = cc
takes-step Equal i e es k r position at h more = let here : position ≡ i = cc in (zero, omega (arith, here), omega arith, ap (λ (q : Key). (q, r) ∷ es) (key_cmp-IsAntisymmetric k e.0 at))
takes-step Greater i e es k r position at h more =
    let t = more h in (suc t.n, omega (arith, t.at), omega (arith, t.within), ap (λ (l : Entries). e ∷ l) t.same)

takes : (i : ℕ) (es : Entries) (k : Key) (r : Record) (position : ℕ)
    → position_from i k es ≡ Ok position → Takes i es k r position
takes i [] k r position h = cc
takes i (e ∷ es) k r position h =
    let t = takes-step (key_cmp k e.0) i e es k r position refl h (takes (i + 1) es k r position) in
    record { n = t.0; at = t.1; within = t.2; same = t.3 }

-- and to that of one that doesn't
record Goes (i : ℕ) (es : Entries) (k : Key) (r : Record) (position : ℕ) : Type 0 where
  n : ℕ
  at : position ≡ i + n
  within : n ≤ length es
  same : insert es n (k, r) ≡ insert_entry key_cmp es k r

goes-step : (o : Ordering) (i : ℕ) (e : Key × Record) (es : Entries) (k : Key) (r : Record) (position : ℕ)
    → match_ordering o (Err i) (Ok i) (position_from (i + 1) k es) ≡ Err position
    → (position_from (i + 1) k es ≡ Err position → Goes (i + 1) es k r position)
    → (n : ℕ) × (position ≡ i + n) × (n ≤ length (e ∷ es))
    × (insert (e ∷ es) n (k, r) ≡ match_ordering o ((k, r) ∷ e ∷ es) ((e.0, r) ∷ es)
    (e ∷ insert_entry key_cmp es k r))
goes-step Less i e es k r position h more =
    let here : position ≡ i = cc in (zero, omega (arith, here), omega arith, refl)
goes-step Equal i e es k r position h more = cc
goes-step Greater i e es k r position h more =
    let t = more h in (suc t.n, omega (arith, t.at), omega (arith, t.within), ap (λ (l : Entries). e ∷ l) t.same)

goes : (i : ℕ) (es : Entries) (k : Key) (r : Record) (position : ℕ)
    → position_from i k es ≡ Err position → Goes i es k r position
goes i [] k r position h =
    let here : position ≡ i = cc in record { n = zero; at = omega (arith, here); within = omega arith; same = refl }
goes i (e ∷ es) k r position h =
    let t = goes-step (key_cmp k e.0) i e es k r position h (goes (i + 1) es k r position) in
    record { n = t.0; at = t.1; within = t.2; same = t.3 }

-- the record at the position of its key is replaced
pub replaced : (es : Entries) (k : Key) (r : Record) (position : ℕ)
    → position_from 0 k es ≡ Ok position → (position < length es)
    × (slice_set es position (k, r) ≡ insert_entry key_cmp es k r)
replaced es k r position h = let t = takes 0 es k r position h in
    let at : position ≡ t.n = omega (arith, t.at) in
    (omega (arith, at, t.within), ap (λ n. slice_set es n (k, r)) at ∙ t.same)

-- and one of a new key goes to its position
pub inserted : (es : Entries) (k : Key) (r : Record) (position : ℕ)
    → position_from 0 k es ≡ Err position
    → (position ≤ length es) × (insert es position (k, r) ≡ insert_entry key_cmp es k r)
inserted es k r position h = let t = goes 0 es k r position h in
    let at : position ≡ t.n = omega (arith, t.at) in
    (omega (arith, at, t.within), ap (λ n. insert es n (k, r)) at ∙ t.same)

-- ---- a search by halves

match-at : (o p : Ordering) (a b c : Result ℕ ℕ) → o ≡ p → match_ordering o a b c ≡ match_ordering p a b c
match-at o p a b c is = ap (λ (x : Ordering). match_ordering x a b c) is

flipped : (a b : Key) (o : Ordering) → key_cmp a b ≡ o → key_cmp b a ≡ ordering_reverse o
flipped a b o is = key_cmp_total.antisymm b a ∙ ap ordering_reverse is

at-most : (o : Ordering) → ordering_index o ≤ ordering_index Greater
at-most Less = omega arith
at-most Equal = omega arith
at-most Greater = omega arith

index-is : (o p : Ordering) (n : ℕ) → o ≡ p → ordering_index p ≤ n → ordering_index o ≤ n
index-is o p n is h = subst (λ (x : Ordering). ordering_index x ≤ n) (sym is) h

no-fall : (a b k : Key) → key_cmp a b ≡ Less → ordering_index (key_cmp a k) ≤ ordering_index (key_cmp b k)
no-fall a b k less = by (key_cmp b k) refl
  where
    by : (o : Ordering) → key_cmp b k ≡ o → ordering_index (key_cmp a k) ≤ ordering_index o
    by Less is = index-is (key_cmp a k) Less (ordering_index Less) (key_cmp_total.trans a b k less is) (omega arith)
    by Equal is = index-is (key_cmp a k) Less (ordering_index Equal) (subst (λ (x : Key). key_cmp a x ≡ Less) (key_cmp-IsAntisymmetric b k is) less) (omega arith)
    by Greater is = at-most (key_cmp a k)

all-at : (x : Key) (es : Entries) (j : ℕ) (d : Key × Record) → IsBelow x es → j < length es
    → key_cmp x (get_or es j d).0 ≡ Less
all-at x [] j d h n = absurd (omega (arith, n))
all-at x (e ∷ es) zero d h n = h.0
all-at x (e ∷ es) (suc j) d h n = all-at x es j d h.1 (omega (arith, n))

non-falling : (es : Entries) (k : Key) → AreRising es
    → IsNonDecreasingBy (λ (e : Key × Record). ordering_index (key_cmp e.0 k)) es
unfolding IsStrictlySortedBy
non-falling [] k s i j d le n = absurd (omega (arith, n))
non-falling (e ∷ es) k s zero zero d le n = omega arith
non-falling (e ∷ es) k s zero (suc j) d le n =
    no-fall e.0 (get_or es j d).0 k (all-at e.0 es j d s.0 (omega (arith, n)))
non-falling (e ∷ es) k s (suc i) zero d le n = absurd (omega (arith, le))
non-falling (e ∷ es) k s (suc i) (suc j) d le n = non-falling es k s.1 i j d (omega (arith, le)) (omega (arith, n))

stands : (es : Entries) (i : ℕ) (k : Key) (n : ℕ) → AreRising es → n < length es
    → HoldsAt (λ (e : Key × Record). key_cmp e.0 k ≡ Equal) es n → position_from i k es ≡ Ok (i + n)
unfolding IsStrictlySortedBy
stands [] i k n s lt at = absurd (omega (arith, lt))
stands (e ∷ es) i k zero s lt at =
    match-at (key_cmp k e.0) Equal (Err i) (Ok i) (position_from (i + 1) k es) (flipped e.0 k Equal (at e)) ∙ ap Ok (omega arith)
stands (e ∷ es) i k (suc n) s lt at =
    let here : (get_or es n e).0 ≡ k = key_cmp-IsAntisymmetric (get_or es n e).0 k (at e) in
    let less : key_cmp e.0 k ≡ Less = subst (λ (x : Key). key_cmp e.0 x ≡ Less) here (all-at e.0 es n e s.0 (omega (arith, lt))) in
    match-at (key_cmp k e.0) Greater (Err i) (Ok i) (position_from (i + 1) k es) (flipped e.0 k Less less)
    ∙ stands es (i + 1) k n s.1 (omega (arith, lt)) (λ d. at d)
    ∙ ap Ok (omega arith)

within-got : (es : Entries) (n : ℕ) (e : Key × Record) → slice_get es n ≡ Some e → n < length es
within-got [] n e h = cc h
within-got (x ∷ es) zero e h = omega arith
within-got (x ∷ es) (suc n) e h = omega (arith, within-got es n e h)

got : (es : Entries) (n : ℕ) (e d : Key × Record) → slice_get es n ≡ Some e → get_or es n d ≡ e
got [] n e d h = cc h
got (x ∷ es) zero e d h = ap (λ (o : Option (Key × Record)). unwrap_or o x) h
got (x ∷ es) (suc n) e d h = got es n e d h

-- a key that is found at a position is there
pub stands-at : (es : Entries) (k : Key) (n : ℕ) (e : Key × Record) → AreRising es
    → slice_get es n ≡ Some e → eq_by_cmp key_cmp k e.0 ≡ true → position_from 0 k es ≡ Ok n
stands-at es k n e s there is =
    let same : key_cmp e.0 k ≡ Equal = flipped k e.0 Equal (tie _ is) in
    stands es 0 k n s (within-got es n e there) (λ d. ap (λ (x : Key × Record). key_cmp x.0 k) (got es n e d there) ∙ same) ∙ ap Ok (omega arith)

apart : (es : Entries) (i : ℕ) (k : Key) (n : ℕ) → n ≤ length es
    → AllWithin (λ (e : Key × Record). key_cmp e.0 k ≡ Less) es 0 n
    → AllWithin (λ (e : Key × Record). key_cmp e.0 k ≡ Greater) es n (length es) → position_from i k es ≡ Err (i + n)
apart [] i k zero le low high = ap Err (omega arith)
apart [] i k (suc n) le low high = absurd (omega (arith, le))
apart (e ∷ es) i k zero le low high =
    match-at (key_cmp k e.0) Less (Err i) (Ok i) (position_from (i + 1) k es) (flipped e.0 k Greater (high 0 e (omega arith) (omega arith))) ∙ ap Err (omega arith)
apart (e ∷ es) i k (suc n) le low high =
    match-at (key_cmp k e.0) Greater (Err i) (Ok i) (position_from (i + 1) k es) (flipped e.0 k Less (low 0 e (omega arith) (omega arith)))
    ∙ apart es (i + 1) k n (omega (arith, le))
    (λ m d a b. low (suc m) d (omega arith) (omega (arith, b)))
    (λ m d a b. high (suc m) d (omega (arith, a)) (omega (arith, b)))
    ∙ ap Err (omega arith)

-- where a search by halves ends among rising keys
pub halved : (es : Entries) (k : Key) (r : Result ℕ ℕ) → AreRising es
    → IsSearchInRange r (length es) → IsBinarySearchResult
    (λ (e : Key × Record). key_cmp e.0 k) es r → r ≡ position_from 0 k es
halved es k (Ok n) s lt at = ap Ok (omega arith) ∙ sym (stands es 0 k n s lt at)
halved es k (Err n) s le parts =
    let p = parts (non-falling es k s) in ap Err (omega arith) ∙ sym (apart es 0 k n le p.0 p.1)

at-end : (es : Entries) (i : ℕ) (k : Key) → IsBehind k es → position_from i k es ≡ Err (i + length es)
at-end [] i k h = ap Err (omega arith)
at-end (e ∷ es) i k h =
    match-at (key_cmp k e.0) Greater (Err i) (Ok i) (position_from (i + 1) k es) (flipped e.0 k Less h.0) ∙ at-end es (i + 1) k h.1 ∙ ap Err (omega arith)

-- a key after all others goes to the end
pub ends : (es : Entries) (k : Key) → IsBehind k es → position_from 0 k es ≡ Err (length es)
ends es k h = at-end es 0 k h ∙ ap Err (omega arith)

-- ---- what is at a position

record Holds (i : ℕ) (es : Entries) (k : Key) (position : ℕ) : Type 0 where
  n : ℕ
  at : position ≡ i + n
  within : n < length es
  key : (d : Key × Record) → (get_or es n d).0 ≡ k
  same : (d : Key × Record) → record_at es k ≡ Some (get_or es n d).1

holds-step : (o : Ordering) (i : ℕ) (e : Key × Record) (es : Entries) (k : Key) (position : ℕ) → key_cmp k e.0 ≡ o
    → match_ordering o (Err i) (Ok i) (position_from (i + 1) k es) ≡ Ok position
    → (position_from (i + 1) k es ≡ Ok position → Holds (i + 1) es k position)
    → (n : ℕ) × (position ≡ i + n) × (n < length (e ∷ es))
    × ((d : Key × Record) → (get_or (e ∷ es) n d).0 ≡ k)
    × ((d : Key × Record) → cond (is_eq o) (Some e.1) (record_at es k)
    ≡ Some (get_or (e ∷ es) n d).1)
holds-step Less i e es k position at h more = cc
holds-step Equal i e es k position at h more = let here : position ≡ i = cc in (zero, omega (arith, here), omega arith, (λ d. sym (key_cmp-IsAntisymmetric k e.0 at)), λ d. refl)
holds-step Greater i e es k position at h more =
    let t = more h in (suc t.n, omega (arith, t.at), omega (arith, t.within), t.key, t.same)

holds : (i : ℕ) (es : Entries) (k : Key) (position : ℕ) → position_from i k es ≡ Ok position → Holds i es k position
holds i [] k position h = cc
holds i (e ∷ es) k position h =
    let t = holds-step (key_cmp k e.0) i e es k position refl h (holds (i + 1) es k position) in
    record { n = t.0; at = t.1; within = t.2; key = t.3; same = t.4 }

-- the record of a key is at its position
pub held : (es : Entries) (k : Key) (position : ℕ) → position_from 0 k es ≡ Ok position
    → (position < length es) × ((d : Key × Record) → (get_or es position d).0 ≡ k)
    × ((d : Key × Record) → record_at es k ≡ Some (get_or es position d).1)
held es k position h = let t = holds 0 es k position h in
    let at : position ≡ t.n = omega (arith, t.at) in
    (omega (arith, at, t.within), (λ d. ap (λ n. (get_or es n d).0) at ∙ t.key d), λ d. t.same d ∙ ap (λ n. Some (get_or es n d).1) (sym at))

none-below : (k : Key) (es : Entries) → IsBelow k es → record_at es k ≡ None
none-below k [] h = refl
none-below k (e ∷ es) h = ap (λ o. cond (is_eq o) (Some e.1) (record_at es k)) h.0 ∙ none-below k es h.1

missing-step : (o : Ordering) (i : ℕ) (e : Key × Record) (es : Entries) (k : Key) (position : ℕ)
    → key_cmp k e.0 ≡ o → IsBelow e.0 es
    → match_ordering o (Err i) (Ok i) (position_from (i + 1) k es) ≡ Err position
    → (position_from (i + 1) k es ≡ Err position → record_at es k ≡ None)
    → cond (is_eq o) (Some e.1) (record_at es k) ≡ None
missing-step Less i e es k position at all h more = none-below k es (below-all k e.0 es at all)
missing-step Equal i e es k position at all h more = cc
missing-step Greater i e es k position at all h more = more h

-- a key that has no position has no record
pub missing : (i : ℕ) (es : Entries) (k : Key) (position : ℕ) → AreRising es
    → position_from i k es ≡ Err position → record_at es k ≡ None
unfolding IsStrictlySortedBy
missing i [] k position s h = refl
missing i (e ∷ es) k position s h =
    missing-step (key_cmp k e.0) i e es k position refl s.0 h (missing (i + 1) es k position s.1)

-- ---- one more among two lists, one after the other

within-step : (o : Ordering) (i : ℕ) (e : Key × Record) (es fs : Entries) (k : Key) (r : Record) (position : ℕ)
    → match_ordering o (Err i) (Ok i) (position_from (i + 1) k es) ≡ Ok position
    → (position_from (i + 1) k es ≡ Ok position
    → insert_entry key_cmp (es ++ fs) k r ≡ insert_entry key_cmp es k r ++ fs)
    → match_ordering o ((k, r) ∷ e ∷ es ++ fs) ((e.0, r) ∷ es ++ fs)
    (e ∷ insert_entry key_cmp (es ++ fs) k r)
    ≡ match_ordering o ((k, r) ∷ e ∷ es) ((e.0, r) ∷ es) (e ∷ insert_entry key_cmp es k r) ++ fs
within-step Less i e es fs k r position h more = cc
within-step Equal i e es fs k r position h more = refl
within-step Greater i e es fs k r position h more = ap (λ (l : Entries). e ∷ l) (more h)

-- the key is in the first
pub within : (i : ℕ) (es fs : Entries) (k : Key) (r : Record) (position : ℕ)
    → position_from i k es ≡ Ok position → insert_entry key_cmp (es ++ fs) k r
    ≡ insert_entry key_cmp es k r ++ fs
within i [] fs k r position h = cc
within i (e ∷ es) fs k r position h =
    within-step (key_cmp k e.0) i e es fs k r position h (within (i + 1) es fs k r position)

record Passes (i : ℕ) (es fs : Entries) (k : Key) (r : Record) (position : ℕ) : Type 0 where
  n : ℕ
  at : position ≡ i + n
  within : n ≤ length es
  same : insert_entry key_cmp (es ++ fs) k r ≡ take n es ++ insert_entry key_cmp (drop n es ++ fs) k r

passes-step : (o : Ordering) (i : ℕ) (e : Key × Record) (es fs : Entries) (k : Key) (r : Record)
    (position : ℕ) → key_cmp k e.0 ≡ o
    → match_ordering o (Err i) (Ok i) (position_from (i + 1) k es) ≡ Err position
    → (position_from (i + 1) k es ≡ Err position → Passes (i + 1) es fs k r position)
    → (n : ℕ) × (position ≡ i + n) × (n ≤ length (e ∷ es))
    × (match_ordering o ((k, r) ∷ e ∷ es ++ fs) ((e.0, r) ∷ es ++ fs)
    (e ∷ insert_entry key_cmp (es ++ fs) k r)
    ≡ take n (e ∷ es) ++ insert_entry key_cmp (drop n (e ∷ es) ++ fs) k r)
passes-step Less i e es fs k r position at h more =
    let here : position ≡ i = cc in
    (zero, omega (arith, here), omega arith, sym (ap (λ (o : Ordering). match_ordering o ((k, r) ∷ e ∷ es ++ fs) ((e.0, r) ∷ es ++ fs) (e ∷ insert_entry key_cmp (es ++ fs) k r)) at))
passes-step Equal i e es fs k r position at h more = cc
passes-step Greater i e es fs k r position at h more =
    let t = more h in (suc t.n, omega (arith, t.at), omega (arith, t.within), ap (λ (l : Entries). e ∷ l) t.same)

passes : (i : ℕ) (es fs : Entries) (k : Key) (r : Record) (position : ℕ)
    → position_from i k es ≡ Err position → Passes i es fs k r position
passes i [] fs k r position h =
    let here : position ≡ i = cc in record { n = zero; at = omega (arith, here); within = omega arith; same = refl }
passes i (e ∷ es) fs k r position h =
    let t = passes-step (key_cmp k e.0) i e es fs k r position refl h (passes (i + 1) es fs k r position) in
    record { n = t.0; at = t.1; within = t.2; same = t.3 }

-- it isn't: it goes after those before its position
pub past : (es fs : Entries) (k : Key) (r : Record) (position : ℕ) → position_from 0 k es ≡ Err position
    → (position ≤ length es) × (insert_entry key_cmp (es ++ fs) k r
    ≡ take position es ++ insert_entry key_cmp (drop position es ++ fs) k r)
past es fs k r position h = let t = passes 0 es fs k r position h in
    let at : position ≡ t.n = omega (arith, t.at) in
    (omega (arith, at, t.within), t.same ∙ ap (λ n. take n es ++ insert_entry key_cmp (drop n es ++ fs) k r) (sym at))

-- ---- what is there then

again : (b : Bool) (r : Record) (o p : Option Record) → cond b (Some r) o ≡ cond b (Some r) (cond b p o)
again true r o p = refl
again false r o p = refl

entered-step : (o : Ordering) (e : Key × Record) (es : Entries) (k : Key) (r : Record) (q : Key) → key_cmp k e.0 ≡ o
    → record_at (insert_entry key_cmp es k r) q ≡ cond (eq_by_cmp key_cmp k q) (Some r) (record_at es q)
    → record_at (match_ordering o ((k, r) ∷ e ∷ es) ((e.0, r) ∷ es)
    (e ∷ insert_entry key_cmp es k r)) q ≡ cond (eq_by_cmp key_cmp k q) (Some r)
    (record_at (e ∷ es) q)
entered-step Less e es k r q at more =
    ap (λ b. cond b (Some r) (record_at (e ∷ es) q)) ((eq_by_cmp_equiv key_cmp_total).symm q k)
entered-step Equal e es k r q at more =
    let turn : eq_by_cmp key_cmp q e.0 ≡ eq_by_cmp key_cmp k q = ap (eq_by_cmp key_cmp q) (sym (key_cmp-IsAntisymmetric k e.0 at)) ∙ (eq_by_cmp_equiv key_cmp_total).symm q k in
    again (eq_by_cmp key_cmp q e.0) r (record_at es q) (Some e.1) ∙ ap (λ b. cond b (Some r) (record_at (e ∷ es) q)) turn
entered-step Greater e es k r q at more =
    ap (cond (eq_by_cmp key_cmp q e.0) (Some e.1)) more ∙ by (eq_by_cmp key_cmp q e.0) refl
  where
    by : (b : Bool) → eq_by_cmp key_cmp q e.0 ≡ b
        → cond b (Some e.1) (cond (eq_by_cmp key_cmp k q) (Some r) (record_at es q))
        ≡ cond (eq_by_cmp key_cmp k q) (Some r) (cond b (Some e.1) (record_at es q))
    by true is =
        let apart : eq_by_cmp key_cmp k q ≡ false = ap (λ x. eq_by_cmp key_cmp k x) (key_cmp-IsAntisymmetric q e.0 (tie _ is)) ∙ ap is_eq at in
        sym (ap (λ a. cond a (Some r) (Some e.1)) apart)
    by false is = refl

pub entered : (es : Entries) (k : Key) (r : Record) (q : Key)
    → record_at (insert_entry key_cmp es k r) q
    ≡ cond (eq_by_cmp key_cmp k q) (Some r) (record_at es q)
entered [] k r q = ap (λ b. cond b (Some r) None) ((eq_by_cmp_equiv key_cmp_total).symm q k)
entered (e ∷ es) k r q = entered-step (key_cmp k e.0) e es k r q refl (entered es k r q)

-- ---- a record of two lists, one after the other

or-either : (b : Bool) (r : Record) (o p : Option Record)
    → cond b (Some r) (option_or o p) ≡ option_or (cond b (Some r) o) p
or-either true r o p = refl
or-either false r o p = refl

pub in-either : (es fs : Entries) (q : Key) → record_at (es ++ fs) q ≡ option_or (record_at es q) (record_at fs q)
in-either [] fs q = refl
in-either (e ∷ es) fs q = ap (cond (eq_by_cmp key_cmp q e.0) (Some e.1)) (in-either es fs q) ∙ or-either (eq_by_cmp key_cmp q e.0) e.1 (record_at es q) (record_at fs q)

-- it is in the first, or else in the second
pub in-first : (es fs : Entries) (q : Key) (r : Record) → record_at es q ≡ Some r → record_at (es ++ fs) q ≡ Some r
in-first es fs q r h = in-either es fs q ∙ ap (λ (o : Option Record). option_or o (record_at fs q)) h

pub in-second : (es fs : Entries) (q : Key) → record_at es q ≡ None → record_at (es ++ fs) q ≡ record_at fs q
in-second es fs q h = in-either es fs q ∙ ap (λ (o : Option Record). option_or o (record_at fs q)) h

none-front : (b : Bool) (r : Record) (o : Option Record) → cond b (Some r) o ≡ None → o ≡ None
none-front true r o h = cc
none-front false r o h = h

pub none-dropped : (n : ℕ) (es : Entries) (q : Key) → record_at es q ≡ None → record_at (drop n es) q ≡ None
none-dropped zero es q h = h
none-dropped (suc n) [] q h = h
none-dropped (suc n) (e ∷ es) q h = none-dropped n es q (none-front (eq_by_cmp key_cmp q e.0) e.1 (record_at es q) h)

-- the second was changed at a key that the first hasn't
pub changed-second : (es fs gs : Entries) (k : Key) (r : Record) → record_at es k ≡ None
    → ((q : Key) → record_at gs q ≡ cond (eq_by_cmp key_cmp k q) (Some r) (record_at fs q))
    → (q : Key) → record_at (es ++ gs) q ≡ cond (eq_by_cmp key_cmp k q) (Some r)
    (record_at (es ++ fs) q)
changed-second es fs gs k r none at q =
    in-either es gs q ∙ ap (option_or (record_at es q)) (at q) ∙ by (eq_by_cmp key_cmp k q) refl ∙ ap (cond (eq_by_cmp key_cmp k q) (Some r)) (sym (in-either es fs q))
  where
    by : (b : Bool) → eq_by_cmp key_cmp k q ≡ b
        → option_or (record_at es q) (cond b (Some r) (record_at fs q))
        ≡ cond b (Some r) (option_or (record_at es q) (record_at fs q))
    by true is = ap (λ (o : Option Record). option_or o (Some r)) (ap (record_at es) (sym (key_cmp-IsAntisymmetric k q (tie _ is))) ∙ none)
    by false is = refl

below-first : (k : Key) (es fs : Entries) → IsBelow k (es ++ fs) → IsBelow k es
below-first k [] fs h = tt
below-first k (e ∷ es) fs h = (h.0, below-first k es fs h.1)

-- none rise
pub rises-empty : AreRising []
unfolding IsStrictlySortedBy
rises-empty = tt

-- the first of two that rise
pub rises-first : (es fs : Entries) → AreRising (es ++ fs) → AreRising es
unfolding IsStrictlySortedBy
rises-first [] fs s = tt
rises-first (e ∷ es) fs s = (below-first e.0 es fs s.0, rises-first es fs s.1)

pub rises-rest : (n : ℕ) (es fs : Entries) → AreRising (es ++ fs) → AreRising (drop n es ++ fs)
unfolding IsStrictlySortedBy
rises-rest zero es fs s = s
rises-rest (suc n) [] fs s = s
rises-rest (suc n) (e ∷ es) fs s = rises-rest n es fs s.1

pub empty-of : (es : Entries) → length es ≡ 0 → es ≡ []
empty-of [] n = refl
empty-of (e ∷ es) n = absurd (omega (arith, n))

-- ---- a record that is put among two lists, one after the other

-- the lists rise, and have that record at its key
pub record HasPut (old new : Entries) (k : Key) (r : Record) : Type 0 where
  pub rising : AreRising new
  pub put : (q : Key) → record_at new q ≡ cond (eq_by_cmp key_cmp k q) (Some r) (record_at old q)

has-put : (old new : Entries) (k : Key) (r : Record) → AreRising old
    → new ≡ insert_entry key_cmp old k r → HasPut old new k r
has-put old new k r s is = record {
  rising = subst AreRising (sym is) (rises-more old k r s);
  put = λ q. ap (λ (es : Entries). record_at es q) is ∙ entered old k r q;
}

-- in the place of another in the first
pub put-at : (es fs : Entries) (k x : Key) (r : Record) (position : ℕ) → AreRising (es ++ fs)
    → position_from 0 k es ≡ Ok position → x ≡ k
    → HasPut (es ++ fs) (slice_set es position (x, r) ++ fs) k r
put-at es fs k x r position s at same =
    has-put (es ++ fs) (slice_set es position (x, r) ++ fs) k r s
    (ap (λ (y : Key). slice_set es position (y, r) ++ fs) same ∙ ap (λ (l : Entries). l ++ fs) (replaced es k r position at).1 ∙ sym (within 0 es fs k r position at))

-- after all of the first, where the second is empty
pub put-last : (es fs gs : Entries) (k : Key) (r : Record) → AreRising (es ++ fs)
    → position_from 0 k es ≡ Err (length es) → fs ≡ [] → gs ≡ es ++ (k, r) ∷ []
    → HasPut (es ++ fs) (gs ++ fs) k r
put-last es fs gs k r s at none is =
    let p = past es fs k r (length es) at in
    let all : take (length es) es ++ insert_entry key_cmp (drop (length es) es ++ fs) k r ≡ es ++ insert_entry key_cmp fs k r =
    ap (λ (l : Entries). l ++ insert_entry key_cmp (drop (length es) es ++ fs) k r) (take_all (length es) es (omega arith))
    ∙ ap (λ (l : Entries). es ++ insert_entry key_cmp (l ++ fs) k r) (drop_of_length-le es (omega arith)) in
    has-put (es ++ fs) (gs ++ fs) k r s
    (ap (λ (l : Entries). gs ++ l) none ∙ append-nil gs ∙ is ∙ ap (λ (l : Entries). es ++ insert_entry key_cmp l k r) (sym none) ∙ sym all ∙ sym p.1)

-- after the first ones up to its position, among the others
pub put-between : (es fs zs : Entries) (k : Key) (r : Record) (position : ℕ) → AreRising (es ++ fs)
    → position_from 0 k es ≡ Err position
    → zs ≡ take position es ++ insert_entry key_cmp (drop position es ++ fs) k r → HasPut (es ++ fs) zs k r
put-between es fs zs k r position s at is = has-put (es ++ fs) zs k r s (is ∙ sym (past es fs k r position at).1)

-- what is there before
pub there-before : (es fs : Entries) (k : Key) (position : ℕ) (d : Key × Record)
    → position_from 0 k es ≡ Ok position → record_at (es ++ fs) k ≡ Some (get_or es position d).1
there-before es fs k position d at = in-first es fs k (get_or es position d).1 ((held es k position at).2 d)

pub none-before : (es fs : Entries) (k : Key) (position : ℕ) → AreRising (es ++ fs)
    → position_from 0 k es ≡ Err position
    → record_at (drop position es ++ fs) k ≡ record_at (es ++ fs) k
none-before es fs k position s at =
    let none : record_at es k ≡ None = missing 0 es k position (rises-first es fs s) at in
    in-second (drop position es) fs k (none-dropped position es k none) ∙ sym (in-second es fs k none)

-- ---- among the first of those after a list

pub less-of : (o : Ordering) → is_lt o ≡ true → o ≡ Less
less-of Less h = refl
less-of Equal h = cc
less-of Greater h = cc

-- a key below the first of all
pub goes-before : (es : Entries) (x : Key) (y : Record) (k : Key) (r : Record)
    → slice_get es 0 ≡ Some (x, y) → key_cmp k x ≡ Less → insert_entry key_cmp es k r ≡ (k, r) ∷ es
goes-before [] x y k r at less = refl
goes-before (e ∷ es) x y k r at less =
    let same : e.0 ≡ x = cc in
    ap (λ o. match_ordering o ((k, r) ∷ e ∷ es) ((e.0, r) ∷ es) (e ∷ insert_entry key_cmp es k r)) (ap (key_cmp k) same ∙ less)

-- has no record among them
pub none-least : (o : Option Record) (x k : Key) → (IsSome o → is_gt (key_cmp x k) ≡ false)
    → key_cmp k x ≡ Less → o ≡ None
none-least None x k least less = refl
none-least (Some r) x k least less =
    let above : key_cmp x k ≡ Greater = flipped k x Less less in
    let not : is_gt (key_cmp x k) ≡ false = search (rules, least) in
    cc

-- one that is not below it: the first can go to the end of the list
pub followed : (es fs gs zs : Entries) (e : Key × Record) (k : Key) (r : Record) → fs ≡ e ∷ gs
    → key_cmp k e.0 ≡ Greater → zs ≡ es ++ e ∷ []
    → zs ++ insert_entry key_cmp gs k r ≡ es ++ insert_entry key_cmp fs k r
followed es fs gs zs e k r split above more =
    let step : insert_entry key_cmp (e ∷ gs) k r ≡ e ∷ insert_entry key_cmp gs k r =
    ap (λ o. match_ordering o ((k, r) ∷ e ∷ gs) ((e.0, r) ∷ gs) (e ∷ insert_entry key_cmp gs k r)) above in
    ap (λ (l : Entries). l ++ insert_entry key_cmp gs k r) more ∙ append_assoc es (e ∷ []) (insert_entry key_cmp gs k r)
    ∙ sym (ap (λ (l : Entries). es ++ l) (ap (λ (l : Entries). insert_entry key_cmp l k r) split ∙ step))
