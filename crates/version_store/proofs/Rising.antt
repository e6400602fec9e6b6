-- The lines of a column, which rise: what is in it after a line was put or taken out, and what is
-- below a line.
use Rattle.std.proofs.Common.{◌≡◌, ℕ, zero, suc, ◌+◌, ◌-◌, ◌<◌, ◌≤◌, Bool, true, false, cond, nat_lt, Option, Some, None, List, [], ◌∷◌, ◌++◌, Result, Ok, Err, length, get_or, refl, sym, ap, subst, ◌∙◌, arith, inl, inr}
use Rattle.std.specs.Prelude.{◌||◌, ◌⊎◌, MatchOption, MatchResult, option_to_list}
use Rattle.std.specs.List.{insert, remove}
use Rattle.std.specs.List.Sorted.{IsBinarySearchResult, IsPartitionPoint, IsPartitionedBy}
use Rattle.std.specs.Ordering.{nat_cmp, eq_by_cmp}
use Rattle.std.proofs.lemmas.Bool.{cases_eq, cases_lt, lt-ltb, ltb-false, ltb-true}
use Rattle.std.proofs.lemmas.Bool.Decides.{nat_tests}
use Rattle.std.proofs.lemmas.List.{append-nil, get_or_default}
use Rattle.std.proofs.lemmas.List.Edits.{length-insert, get_or-insert_below, get_or-insert_at, get_or-insert_above}
use Rattle.std.proofs.lemmas.List.Quantifiers.{all_pairs_remove}
use Rattle.std.proofs.lemmas.List.Sorted as sorted
use Rattle.version_store.specs.Index.{IsLatest, has}
use Rattle.version_store.specs.Devices.Columns.{AreBelow, GoesTo, IsColumn, Rising, StandsAt, lines_of}

-- ---- numbers that are the same, and tests
apart : (m n : ℕ) → (m ≡ n → ⊥) → eq_by_cmp nat_cmp m n ≡ false
apart m n h = grind (arith, nat_tests)

itself : (n : ℕ) → eq_by_cmp nat_cmp n n ≡ true
itself n = grind (arith, nat_tests)

is_one : (m n : ℕ) → eq_by_cmp nat_cmp m n ≡ true → m ≡ n
is_one m n h = grind (arith, nat_tests)

or_true : (b : Bool) → (b || true) ≡ true
or_true true = refl
or_true false = refl

or_first : (a b : Bool) → (a || b) ≡ cond a true b
or_first true b = refl
or_first false b = refl

or_later : (a b c : Bool) → (c || cond a true b) ≡ cond a true (c || b)
or_later true b true = refl
or_later true b false = refl
or_later false b c = refl

but_first : (a b : Bool) → (a ≡ true → b ≡ false) → b ≡ cond a false (a || b)
but_first true b h = h refl
but_first false b h = refl

but_later : (a b c : Bool) → (a ≡ true → c ≡ false) → (c || cond a false b) ≡ cond a false (c || b)
but_later true b c h = rw (h refl) refl
but_later false b c h = refl

but_none : (a b : Bool) → (a ≡ true → b ≡ false) → b ≡ cond a false b
but_none true b h = h refl
but_none false b h = refl

and_there : (a b : Bool) → (a ≡ true → b ≡ true) → b ≡ cond a true b
and_there true b h = h refl
and_there false b h = refl

-- ---- whether a line is there
has_none : (ns : List ℕ) (m : ℕ) → ((k : ℕ) → k < length ns → get_or ns k 0 ≡ m → ⊥) → has ns m ≡ false
has_none [] m h = refl
has_none (n ∷ ns) m h =
    ap (λ b. b || has ns m) (apart n m (h 0 (omega arith)))
    ∙ has_none ns m (λ k l. h (suc k) (omega (arith, l)))

has_at : (ns : List ℕ) (n i : ℕ) → i < length ns → get_or ns i 0 ≡ n → has ns n ≡ true
has_at [] n i l e = absurd (omega (arith, l))
has_at (m ∷ ns) n zero l e = ap (λ x. eq_by_cmp nat_cmp x n || has ns n) e ∙ ap (λ b. b || has ns n) (itself n)
has_at (m ∷ ns) n (suc i) l e = ap (λ b. eq_by_cmp nat_cmp m n || b) (has_at ns n i (omega (arith, l)) e) ∙ or_true (eq_by_cmp nat_cmp m n)

-- ---- a search
far : (ns : List ℕ) → Rising ns → (i j : ℕ) → i ≤ j → j < length ns → get_or ns i 0 ≤ get_or ns j 0
far ns rise i j l h = elim (cases_eq i j) [
  | inl e ↦ rw e (omega arith)
  | inr n ↦ let s = rise i j 0 (omega (arith, l, n)) h in omega (arith, s)
]

pub placed : (ns : List ℕ) (n : ℕ) (r : Result ℕ ℕ) → Rising ns → IsBinarySearchResult (λ m. nat_cmp m n) ns r → MatchResult r (StandsAt ns n) (GoesTo ns n)
placed ns n (Ok i) rise found = let h = sorted.searched ns n (Ok i) found (far ns rise) in record { within = h.0; same = h.1 }
placed ns n (Err i) rise found = let h = sorted.searched ns n (Err i) found (far ns rise) in record { within = h.0; below = h.1; above = h.2 }

-- a test by which the lines are parted
pub parted_by : (ns : List ℕ) (below : ℕ) → Rising ns → IsPartitionedBy (λ m. nat_lt m below) ns
parted_by ns below rise i j d l h t = lt-ltb (get_or ns i d) below (omega (arith, ltb-true _ _ t, get_or_default ns i 0 d (omega (arith, l, h)), get_or_default ns j 0 d h, far ns rise i j l h))

pub parted : (ns : List ℕ) (below count : ℕ) → count ≤ length ns → IsPartitionPoint (λ m. nat_lt m below ≡ true) (λ m. nat_lt m below ≡ false) ns count → AreBelow ns below count
parted ns below count within p = record {
  within = within;
  below = λ j l. ltb-true _ _ (p.0 j 0 (omega arith) l);
  rest = λ j l h. ltb-false _ _ (p.1 j 0 l h);
}

-- ---- a line that is put
put_in : (ns : List ℕ) (i n m : ℕ) → has (insert ns i n) m ≡ cond (eq_by_cmp nat_cmp n m) true (has ns m)
put_in [] zero n m = or_first (eq_by_cmp nat_cmp n m) false
put_in [] (suc i) n m = or_first (eq_by_cmp nat_cmp n m) false
put_in (x ∷ ns) zero n m = or_first (eq_by_cmp nat_cmp n m) (has (x ∷ ns) m)
put_in (x ∷ ns) (suc i) n m =
    ap (λ b. eq_by_cmp nat_cmp x m || b) (put_in ns i n m)
    ∙ or_later (eq_by_cmp nat_cmp n m) (has ns m) (eq_by_cmp nat_cmp x m)

has_put : (ns ms : List ℕ) (i n : ℕ) → ms ≡ insert ns i n → (m : ℕ) → has ms m ≡ cond (eq_by_cmp nat_cmp n m) true (has ns m)
has_put ns ms i n is m = ap (λ l. has l m) is ∙ put_in ns i n m

-- a line that was there
pub has_still : (ns : List ℕ) (n i : ℕ) → StandsAt ns n i → (m : ℕ) → has ns m ≡ cond (eq_by_cmp nat_cmp n m) true (has ns m)
has_still ns n i at m = and_there _ _ (λ e. ap (has ns) (sym (is_one n m e)) ∙ has_at ns n i at.within at.same)

-- what is at a position then
abbrev Put : List ℕ → ℕ → ℕ → ℕ → Type 0
Put ns n i k =
    ((k < i) × (get_or (insert ns i n) k 0 ≡ get_or ns k 0))
    ⊎ (((k ≡ i) × (get_or (insert ns i n) k 0 ≡ n)) ⊎ ((i < k) × (get_or (insert ns i n) k 0 ≡ get_or ns (k - 1) 0)))

put_at : (ns : List ℕ) (n i k : ℕ) → i ≤ length ns → Put ns n i k
put_at ns n i k within = elim (cases_lt k i) [
  | inl l ↦ inl (l, get_or-insert_below ns i n 0 k l within)
  | inr l ↦ elim (cases_eq k i) [
    | inl e ↦ inr (inl (e, ap (λ j. get_or (insert ns i n) j 0) e ∙ get_or-insert_at ns i n 0 within))
    | inr u ↦ let next : k ≡ (k - 1) + 1 = omega (arith, l, u) in
        inr (inr (omega (arith, l, u), ap (λ j. get_or (insert ns i n) j 0) next ∙ get_or-insert_above ns i n 0 (k - 1) (omega (arith, l, u)) within))
  ]
]

put_two : (ns : List ℕ) (n i j k : ℕ) → Rising ns → GoesTo ns n i → j < k → k < length ns + 1 → Put ns n i j → Put ns n i k → get_or (insert ns i n) j 0 < get_or (insert ns i n) k 0
put_two ns n i j k rise gap l h (inl a) (inl b) = omega (arith, a.1, b.1, rise j k 0 l (omega (arith, b.0, gap.within)))
put_two ns n i j k rise gap l h (inl a) (inr (inl b)) = omega (arith, a.1, b.1, gap.below j a.0)
put_two ns n i j k rise gap l h (inl a) (inr (inr b)) = omega (arith, a.1, b.1, rise j (k - 1) 0 (omega (arith, a.0, b.0)) (omega (arith, b.0, h)))
put_two ns n i j k rise gap l h (inr (inl a)) (inl b) = absurd (omega (arith, a.0, b.0, l))
put_two ns n i j k rise gap l h (inr (inl a)) (inr (inl b)) = absurd (omega (arith, a.0, b.0, l))
put_two ns n i j k rise gap l h (inr (inl a)) (inr (inr b)) = omega (arith, a.1, b.1, gap.above (k - 1) (omega (arith, b.0)) (omega (arith, b.0, h)))
put_two ns n i j k rise gap l h (inr (inr a)) (inl b) = absurd (omega (arith, a.0, b.0, l))
put_two ns n i j k rise gap l h (inr (inr a)) (inr (inl b)) = absurd (omega (arith, a.0, b.0, l))
put_two ns n i j k rise gap l h (inr (inr a)) (inr (inr b)) = omega (arith, a.1, b.1, rise (j - 1) (k - 1) 0 (omega (arith, a.0, b.0, l)) (omega (arith, b.0, h)))

rising_from : (ns : List ℕ) → ((j k : ℕ) → j < k → k < length ns → get_or ns j 0 < get_or ns k 0) → Rising ns
rising_from ns h j k d l within = omega (arith, h j k l within, get_or_default ns j 0 d (omega (arith, l, within)), get_or_default ns k 0 d within)

rising_put : (ns : List ℕ) (n i : ℕ) → Rising ns → GoesTo ns n i → Rising (insert ns i n)
rising_put ns n i rise gap = rising_from (insert ns i n) (λ j k l h.
    put_two ns n i j k rise gap l (omega (arith, h, length-insert ns i n gap.within)) (put_at ns n i j gap.within) (put_at ns n i k gap.within))

-- ---- a line that is taken out
take_at : (ns : List ℕ) (n i m : ℕ) → Rising ns → i < length ns → get_or ns i 0 ≡ n → has (remove ns i) m ≡ cond (eq_by_cmp nat_cmp n m) false (has ns m)
take_at [] n i m rise l e = absurd (omega (arith, l))
take_at (x ∷ ns) n zero m rise l e =
    but_first (eq_by_cmp nat_cmp x m) (has ns m) (λ t. has_none ns m (λ k h s. omega (arith, rise 0 (suc k) 0 (omega arith) (omega (arith, h)), is_one x m t, s)))
    ∙ ap (λ y. cond (eq_by_cmp nat_cmp y m) false (has (x ∷ ns) m)) e
take_at (x ∷ ns) n (suc i) m rise l e =
    ap (λ b. eq_by_cmp nat_cmp x m || b) (take_at ns n i m (λ j k d a b. rise (suc j) (suc k) d (omega (arith, a)) (omega (arith, b))) (omega (arith, l)) e)
    ∙ but_later (eq_by_cmp nat_cmp n m) (has ns m) (eq_by_cmp nat_cmp x m)
    (λ t. apart x m (λ s. omega (arith, rise 0 (suc i) 0 (omega arith) l, is_one n m t, s, e)))

has_out : (ns : List ℕ) (n i : ℕ) → Rising ns → StandsAt ns n i → (m : ℕ) → has (remove ns i) m ≡ cond (eq_by_cmp nat_cmp n m) false (has ns m)
has_out ns n i rise at m = take_at ns n i m rise at.within at.same

-- a line that wasn't there
has_never : (ns : List ℕ) (n i : ℕ) → GoesTo ns n i → (m : ℕ) → has ns m ≡ cond (eq_by_cmp nat_cmp n m) false (has ns m)
has_never ns n i gap m = but_none _ _ (λ e. ap (has ns) (sym (is_one n m e)) ∙ has_none ns n (λ k l s. elim (cases_lt k i) [
  | inl b ↦ omega (arith, gap.below k b, s)
  | inr b ↦ omega (arith, gap.above k (omega (arith, b)) l, s)
]))

rising_out : (ns : List ℕ) (n i : ℕ) → Rising ns → StandsAt ns n i → Rising (remove ns i)
rising_out ns n i rise at = all_pairs_remove (λ a b. a < b) ns i at.within rise

-- ---- the greatest line below
pub none_below : (ns : List ℕ) (below : ℕ) → AreBelow ns below 0 → IsLatest (has ns) below None
none_below ns below are = λ m l. has_none ns m (λ k h s. omega (arith, are.rest k (omega arith) h, l, s))

last_is : (ns : List ℕ) (below count n : ℕ) → Rising ns → AreBelow ns below count → 0 < count → n ≡ get_or ns (count - 1) 0 → IsLatest (has ns) below (Some n)
last_is ns below count n rise are some is = (
  omega (arith, are.below (count - 1) (omega (arith, some)), is),
  has_at ns n (count - 1) (omega (arith, some, are.within)) (sym is),
  λ m a b. has_none ns m (λ k h s. elim (cases_lt k count) [
    | inl l ↦ omega (arith, far ns rise k (count - 1) (omega (arith, l, some)) (omega (arith, some, are.within)), is, s, a)
    | inr l ↦ omega (arith, are.rest k (omega (arith, l)) h, s, b)
  ]),
)

pub last_below : (ns : List ℕ) (below count n : ℕ) → Rising ns → AreBelow ns below count → 0 < count → n ≡ get_or ns (count - 1) n → IsLatest (has ns) below (Some n)
last_below ns below count n rise are some is = last_is ns below count n rise are some (is ∙ get_or_default ns (count - 1) n 0 (omega (arith, some, are.within)))

-- ---- the newest line after the older ones
length_end : (ns : List ℕ) (n : ℕ) → length (ns ++ n ∷ []) ≡ length ns + 1
length_end [] n = refl
length_end (x ∷ ns) n = omega (arith, length_end ns n)

end_at : (ns : List ℕ) (n : ℕ) → get_or (ns ++ n ∷ []) (length ns) 0 ≡ n
end_at [] n = refl
end_at (x ∷ ns) n = end_at ns n

front_at : (ns : List ℕ) (n i d : ℕ) → i < length ns → get_or (ns ++ n ∷ []) i d ≡ get_or ns i d
front_at [] n i d l = absurd (omega (arith, l))
front_at (x ∷ ns) n zero d l = refl
front_at (x ∷ ns) n (suc i) d l = front_at ns n i d (omega (arith, l))

insert_front : (ns : List ℕ) (n i m : ℕ) → i ≤ length ns → insert (ns ++ n ∷ []) i m ≡ insert ns i m ++ n ∷ []
insert_front [] n zero m l = refl
insert_front [] n (suc i) m l = absurd (omega (arith, l))
insert_front (x ∷ ns) n zero m l = refl
insert_front (x ∷ ns) n (suc i) m l = ap (λ (xs : List ℕ). x ∷ xs) (insert_front ns n i m (omega (arith, l)))

insert_end : (ns : List ℕ) (n : ℕ) → insert ns (length ns) n ≡ ns ++ n ∷ []
insert_end [] n = refl
insert_end (x ∷ ns) n = ap (λ (xs : List ℕ). x ∷ xs) (insert_end ns n)

remove_front : (ns : List ℕ) (n i : ℕ) → i < length ns → remove (ns ++ n ∷ []) i ≡ remove ns i ++ n ∷ []
remove_front [] n i l = absurd (omega (arith, l))
remove_front (x ∷ ns) n zero l = refl
remove_front (x ∷ ns) n (suc i) l = ap (λ (xs : List ℕ). x ∷ xs) (remove_front ns n i (omega (arith, l)))

remove_end : (ns : List ℕ) (n : ℕ) → remove (ns ++ n ∷ []) (length ns) ≡ ns
remove_end [] n = refl
remove_end (x ∷ ns) n = ap (λ (xs : List ℕ). x ∷ xs) (remove_end ns n)

pub rising_front : (ns : List ℕ) (n : ℕ) → Rising (ns ++ n ∷ []) → Rising ns
rising_front ns n rise = rising_from ns (λ j k l h.
    omega (arith, rise j k 0 l (omega (arith, h, length_end ns n)), front_at ns n j 0 (omega (arith, l, h)), front_at ns n k 0 h))

-- each line is at most the newest
at_most : (ns : List ℕ) (n i : ℕ) → Rising (ns ++ n ∷ []) → i < length (ns ++ n ∷ []) → get_or (ns ++ n ∷ []) i 0 ≤ n
at_most ns n i rise h = omega (arith, far (ns ++ n ∷ []) rise i (length ns) (omega (arith, h, length_end ns n)) (omega (arith, length_end ns n)), end_at ns n)

pub at_front : (ns : List ℕ) (n m i : ℕ) → StandsAt ns m i → StandsAt (ns ++ n ∷ []) m i
at_front ns n m i at = record { within = omega (arith, at.within, length_end ns n); same = front_at ns n i 0 at.within ∙ at.same }

pub at_end : (ns : List ℕ) (n : ℕ) → StandsAt (ns ++ n ∷ []) n (length ns)
at_end ns n = record { within = omega (arith, length_end ns n); same = end_at ns n }

gap_front : (ns : List ℕ) (n m i : ℕ) → GoesTo ns m i → m < n → GoesTo (ns ++ n ∷ []) m i
gap_front ns n m i gap less = record {
  within = omega (arith, gap.within, length_end ns n);
  below = λ j l. omega (arith, gap.below j l, front_at ns n j 0 (omega (arith, l, gap.within)));
  above = λ j l h. elim (cases_lt j (length ns)) [
    | inl a ↦ omega (arith, gap.above j l a, front_at ns n j 0 a)
    | inr a ↦ let e : j ≡ length ns = omega (arith, a, h, length_end ns n) in omega (arith, less, ap (λ x. get_or (ns ++ n ∷ []) x 0) e, end_at ns n)
  ];
}

gap_end : (ns : List ℕ) (n m : ℕ) → Rising (ns ++ n ∷ []) → n < m → GoesTo (ns ++ n ∷ []) m (length (ns ++ n ∷ []))
gap_end ns n m rise less = record {
  within = omega arith;
  below = λ j l. omega (arith, at_most ns n j rise l, less);
  above = λ j l h. absurd (omega (arith, l, h));
}

-- ---- a column that was changed
pub has_newer : (ns : List ℕ) (n m : ℕ) → has (ns ++ n ∷ []) m ≡ cond (eq_by_cmp nat_cmp n m) true (has ns m)
has_newer ns n m = has_put ns (ns ++ n ∷ []) (length ns) n (sym (insert_end ns n)) m

pub rising_newer : (ns : List ℕ) (n m : ℕ) → Rising (ns ++ n ∷ []) → n < m → Rising ((ns ++ n ∷ []) ++ m ∷ [])
rising_newer ns n m rise less = subst Rising (insert_end (ns ++ n ∷ []) m) (rising_put (ns ++ n ∷ []) m (length (ns ++ n ∷ [])) rise (gap_end ns n m rise less))

pub rising_one : (n : ℕ) → Rising (n ∷ [])
rising_one n = λ i j d l h. absurd (omega (arith, l, h))

-- a line among the older ones
pub has_older : (ns ms : List ℕ) (n i m : ℕ) → GoesTo ns m i → ms ≡ insert ns i m → (k : ℕ) → has (ms ++ n ∷ []) k ≡ cond (eq_by_cmp nat_cmp m k) true (has (ns ++ n ∷ []) k)
has_older ns ms n i m gap is = has_put (ns ++ n ∷ []) (ms ++ n ∷ []) i m (ap (λ (xs : List ℕ). xs ++ n ∷ []) is ∙ sym (insert_front ns n i m gap.within))

-- whether there was memory for it or not
pub rising_older : (done : Bool) (ns ms : List ℕ) (n i m : ℕ) → Rising (ns ++ n ∷ []) → GoesTo ns m i → m < n → ms ≡ cond done (insert ns i m) ns → Rising (ms ++ n ∷ [])
rising_older true ns ms n i m rise gap less is =
    subst Rising (insert_front ns n i m gap.within ∙ ap (λ (xs : List ℕ). xs ++ n ∷ []) (sym is)) (rising_put (ns ++ n ∷ []) m i rise (gap_front ns n m i gap less))
rising_older false ns ms n i m rise gap less is = subst (λ xs. Rising (xs ++ n ∷ [])) (sym is) rise

pub has_left : (ns ms : List ℕ) (n i m : ℕ) → Rising (ns ++ n ∷ []) → StandsAt ns m i → ms ≡ remove ns i → (k : ℕ) → has (ms ++ n ∷ []) k ≡ cond (eq_by_cmp nat_cmp m k) false (has (ns ++ n ∷ []) k)
has_left ns ms n i m rise at is k =
    ap (λ (xs : List ℕ). has xs k) (ap (λ (xs : List ℕ). xs ++ n ∷ []) is ∙ sym (remove_front ns n i at.within))
    ∙ has_out (ns ++ n ∷ []) m i rise (at_front ns n m i at) k

pub rising_left : (ns ms : List ℕ) (n i m : ℕ) → Rising (ns ++ n ∷ []) → StandsAt ns m i → ms ≡ remove ns i → Rising (ms ++ n ∷ [])
rising_left ns ms n i m rise at is =
    subst Rising (remove_front ns n i at.within ∙ ap (λ (xs : List ℕ). xs ++ n ∷ []) (sym is)) (rising_out (ns ++ n ∷ []) m i rise (at_front ns n m i at))

pub has_no_newer : (ns : List ℕ) (n : ℕ) → Rising (ns ++ n ∷ []) → (k : ℕ) → has ns k ≡ cond (eq_by_cmp nat_cmp n k) false (has (ns ++ n ∷ []) k)
has_no_newer ns n rise k = ap (λ (xs : List ℕ). has xs k) (sym (remove_end ns n)) ∙ has_out (ns ++ n ∷ []) n (length ns) rise (at_end ns n) k

-- a line that wasn't there
pub has_neither : (ns : List ℕ) (n i m : ℕ) → GoesTo ns m i → (n ≡ m → ⊥) → (k : ℕ) → has (ns ++ n ∷ []) k ≡ cond (eq_by_cmp nat_cmp m k) false (has (ns ++ n ∷ []) k)
has_neither ns n i m gap other k = but_none _ _ (λ e.
    has_newer ns n k
    ∙ ap (λ b. cond b true (has ns k)) (apart n k (λ s. other (s ∙ sym (is_one m k e))))
    ∙ has_never ns m i gap k ∙ ap (λ b. cond b false (has ns k)) e)

none_of : (ns : List ℕ) → length ns ≡ 0 → ns ≡ []
none_of [] e = refl
none_of (x ∷ ns) e = absurd (omega (arith, e))

-- the last of the older lines becomes the newest
pub popped : (r : Option ℕ) (ns ms : List ℕ) (a b : ℕ) → a ≡ length ns → ns ≡ ms ++ option_to_list r → MatchOption r ((a ≡ 0) × (b ≡ 0)) (λ x. b + 1 ≡ a) → lines_of r ms ≡ ns
popped None ns ms a b long is none = sym (none_of ns (sym long ∙ none.0))
popped (Some x) ns ms a b long is some = sym is

pub popped_column : (r : Option ℕ) (ns ms : List ℕ) (a b : ℕ) → a ≡ length ns → Rising ns → ns ≡ ms ++ option_to_list r → MatchOption r ((a ≡ 0) × (b ≡ 0)) (λ x. b + 1 ≡ a) → IsColumn r ms
popped_column None ns ms a b long rise is none = sym (append-nil ms) ∙ sym is ∙ none_of ns (sym long ∙ none.0)
popped_column (Some x) ns ms a b long rise is some = subst Rising is rise

-- ---- the greatest line below, where the newest isn't below, and where it is
before_newest : (ns : List ℕ) (n m : ℕ) → m < n → has (ns ++ n ∷ []) m ≡ has ns m
before_newest ns n m l = has_newer ns n m ∙ ap (λ b. cond b true (has ns m)) (apart n m (λ e. omega (arith, e, l)))

pub latest_older : (ns : List ℕ) (n below : ℕ) (r : Option ℕ) → below ≤ n → IsLatest (has ns) below r → IsLatest (has (ns ++ n ∷ [])) below r
latest_older ns n below None le h = λ m l. before_newest ns n m (omega (arith, l, le)) ∙ h m l
latest_older ns n below (Some r) le h = (
  h.0,
  before_newest ns n r (omega (arith, h.0, le)) ∙ h.1,
  λ m a b. before_newest ns n m (omega (arith, b, le)) ∙ h.2 m a b,
)

pub latest_newest : (ns : List ℕ) (n below : ℕ) → Rising (ns ++ n ∷ []) → n < below → IsLatest (has (ns ++ n ∷ [])) below (Some n)
latest_newest ns n below rise l = (
  l,
  has_newer ns n n ∙ ap (λ b. cond b true (has ns n)) (itself n),
  λ m a b. has_none (ns ++ n ∷ []) m (λ k h s. omega (arith, at_most ns n k rise h, s, a)),
)
