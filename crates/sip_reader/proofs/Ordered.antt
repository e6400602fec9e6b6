-- Padded bytes are ordered as the bytes are, and as the numbers that they spell.
use Rattle.std.proofs.Common.{◌≡◌, ◌≤◌, ◌<◌, ◌+◌, ◌-◌, ◌*◌, ◌++◌, ℕ, zero, suc, List, [], ◌∷◌, length, take, drop, get_or, replicate, refl, ap, sym, ◌∙◌, arith, drop-cons, length-drop, get_or-drop, lit<}
use Rattle.std.proofs.lemmas.List.{take-append-drop, take-take, take_all, length-replicate}
use Rattle.std.proofs.lemmas.Grind.{common_steps}
use Rattle.std.proofs.lemmas.Cmp.{tied_itself, nat_list_cmp_total}
use Rattle.std.specs.Cmp.{nat_cmp_is, ranks}
use Rattle.std.specs.Cmp.Lexicographic.{slice_cmp}
use Rattle.std.specs.FinMap.{nat_cmp-IsAntisymmetric, slice_cmp-IsAntisymmetric}
use Rattle.std.specs.Ordering.{MatchOrdering, nat_cmp, ordering_then}
use Rattle.std.specs.Slice.Scan.{big_endian}
use Rattle.std.specs.declared.cmp.Ordering.{Ordering}
use Rattle.std.specs.declared.cmp.Ordering.TheVariants.{Less, Equal, Greater}
use Rattle.sip_reader.specs.Devices.Padding.{IsPadded}

then_assoc : (a b c : Ordering) → ordering_then a (ordering_then b c) ≡ ordering_then (ordering_then a b) c
then_assoc Less b c = refl
then_assoc Equal b c = refl
then_assoc Greater b c = refl

-- what comes first decides first
pub parted : (us vs xs ys : List ℕ) → length us ≡ length vs
    → slice_cmp nat_cmp (us ++ xs) (vs ++ ys) ≡ ordering_then (slice_cmp nat_cmp us vs) (slice_cmp nat_cmp xs ys)
parted [] [] xs ys e = refl
parted [] (v ∷ vs) xs ys e = absurd (omega arith)
parted (u ∷ us) [] xs ys e = absurd (omega arith)
parted (u ∷ us) (v ∷ vs) xs ys e =
    ap (ordering_then (nat_cmp u v)) (parted us vs xs ys (omega arith))
    ∙ then_assoc (nat_cmp u v) (slice_cmp nat_cmp us vs) (slice_cmp nat_cmp xs ys)

-- ---- bytes as numbers
abbrev pub Small : List ℕ → Type 0
Small xs = (k : ℕ) → get_or xs k 0 < 256

rises : (a b : ℕ) (us vs : List ℕ) → length us ≡ length vs → Small us → a < b → big_endian a us < big_endian b vs
rises a b [] [] e h l = l
rises a b [] (v ∷ vs) e h l = absurd (omega arith)
rises a b (u ∷ us) [] e h l = absurd (omega arith)
rises a b (u ∷ us) (v ∷ vs) e h l =
    let small : u < 256 = h 0 in
    rises (a * 256 + u) (b * 256 + v) us vs (omega arith) (λ k. h (suc k)) (omega arith)

pub spelt : (a : ℕ) (us vs : List ℕ) → length us ≡ length vs → Small us → Small vs
    → slice_cmp nat_cmp us vs ≡ nat_cmp (big_endian a us) (big_endian a vs)
spelt a [] [] e g h = nat_cmp_is a a Equal refl
spelt a [] (v ∷ vs) e g h = absurd (omega arith)
spelt a (u ∷ us) [] e g h = absurd (omega arith)
spelt a (u ∷ us) (v ∷ vs) e g h =
    by (nat_cmp u v) refl (ranks u v) (spelt (a * 256 + u) us vs (omega arith) (λ k. g (suc k)) (λ k. h (suc k)))
  where
    x : ℕ
    x = big_endian (a * 256 + u) us

    y : ℕ
    y = big_endian (a * 256 + v) vs

    by : (r : Ordering) → nat_cmp u v ≡ r → MatchOrdering r (u < v) (u ≡ v) (v < u)
        → slice_cmp nat_cmp us vs ≡ nat_cmp x (big_endian (a * 256 + u) vs)
        → ordering_then (nat_cmp u v) (slice_cmp nat_cmp us vs) ≡ nat_cmp x y
    by Less q l rest =
        let under : u < v = l in
        let up : x < y = rises (a * 256 + u) (a * 256 + v) us vs (omega arith) (λ k. g (suc k)) (omega arith) in
        ap (λ r. ordering_then r (slice_cmp nat_cmp us vs)) q ∙ nat_cmp_is x y Less up
    by Greater q l rest =
        let over : v < u = l in
        let down : y < x = rises (a * 256 + v) (a * 256 + u) vs us (omega arith) (λ k. h (suc k)) (omega arith) in
        ap (λ r. ordering_then r (slice_cmp nat_cmp us vs)) q ∙ nat_cmp_is x y Greater down
    by Equal q l rest =
        let level : u ≡ v = l in
        ap (λ r. ordering_then r (slice_cmp nat_cmp us vs)) q
        ∙ rest
        ∙ ap (λ w. nat_cmp x (big_endian (a * 256 + w) vs)) level

-- ---- zeros at the end
none_below : (n : ℕ) (bs : List ℕ) → n ≡ length bs → ordering_then (slice_cmp nat_cmp (replicate n 0) bs) Less ≡ Less
none_below zero [] e = refl
none_below zero (b ∷ bs) e = absurd (omega arith)
none_below (suc n) [] e = absurd (omega arith)
none_below (suc n) (b ∷ bs) e = by (nat_cmp 0 b) (ranks 0 b) (none_below n bs (omega arith))
  where
    by : (r : Ordering) → MatchOrdering r (0 < b) (0 ≡ b) (b < 0)
        → ordering_then (slice_cmp nat_cmp (replicate n 0) bs) Less ≡ Less
        → ordering_then (ordering_then r (slice_cmp nat_cmp (replicate n 0) bs)) Less ≡ Less
    by Less l h = refl
    by Equal l h = h
    by Greater l h = let never : b < 0 = l in absurd (omega arith)

none_above : (n : ℕ) (bs : List ℕ) → n ≡ length bs
    → ordering_then (slice_cmp nat_cmp bs (replicate n 0)) Greater ≡ Greater
none_above zero [] e = refl
none_above zero (b ∷ bs) e = absurd (omega arith)
none_above (suc n) [] e = absurd (omega arith)
none_above (suc n) (b ∷ bs) e = by (nat_cmp b 0) (ranks b 0) (none_above n bs (omega arith))
  where
    by : (r : Ordering) → MatchOrdering r (b < 0) (b ≡ 0) (0 < b)
        → ordering_then (slice_cmp nat_cmp bs (replicate n 0)) Greater ≡ Greater
        → ordering_then (ordering_then r (slice_cmp nat_cmp bs (replicate n 0))) Greater ≡ Greater
    by Less l h = let never : b < 0 = l in absurd (omega arith)
    by Equal l h = h
    by Greater l h = refl

next_cmp : (m n : ℕ) → nat_cmp m n ≡ nat_cmp (suc m) (suc n)
next_cmp m n = by (nat_cmp m n) (ranks m n)
  where
    by : (r : Ordering) → MatchOrdering r (m < n) (m ≡ n) (n < m) → r ≡ nat_cmp (suc m) (suc n)
    by Less l = let under : m < n = l in nat_cmp_is (suc m) (suc n) Less (omega arith)
    by Equal l = let level : m ≡ n = l in nat_cmp_is (suc m) (suc n) Equal (omega arith)
    by Greater l = let over : n < m = l in nat_cmp_is (suc m) (suc n) Greater (omega arith)

-- the fronts of two lists of one length that have zeros after them: the lists decide, and else the
-- lengths of the fronts
pub fronts : (m n p q : ℕ) (xs ys : List ℕ) → m ≤ length xs → n ≤ length ys → length xs ≡ length ys
    → drop m xs ≡ replicate p 0 → drop n ys ≡ replicate q 0
    → slice_cmp nat_cmp (take m xs) (take n ys) ≡ ordering_then (slice_cmp nat_cmp xs ys) (nat_cmp m n)
fronts zero zero p q xs ys a b e g h =
    let long : p ≡ length xs = sym (length-replicate p 0) ∙ ap length (sym g) in
    let wide : q ≡ length ys = sym (length-replicate q 0) ∙ ap length (sym h) in
    let same : ys ≡ xs = h ∙ ap (λ n. replicate n 0) (omega arith) ∙ sym g in
    sym (ap (λ zs. ordering_then (slice_cmp nat_cmp xs zs) Equal) same ∙ ap (λ r. ordering_then r Equal) (tied_itself nat_list_cmp_total xs))
fronts zero (suc n) p q xs [] a b e g h = absurd (omega arith)
fronts zero (suc n) p q xs (y ∷ ys) a b e g h =
    let long : p ≡ length xs = sym (length-replicate p 0) ∙ ap length (sym g) in
    sym (ap (λ zs. ordering_then (slice_cmp nat_cmp zs (y ∷ ys)) (nat_cmp 0 (suc n))) g
    ∙ ap (ordering_then (slice_cmp nat_cmp (replicate p 0) (y ∷ ys))) (sym (nat_cmp_is 0 (suc n) Less (omega arith)))
    ∙ none_below p (y ∷ ys) (omega arith))
fronts (suc m) zero p q [] ys a b e g h = absurd (omega arith)
fronts (suc m) zero p q (x ∷ xs) ys a b e g h =
    let wide : q ≡ length ys = sym (length-replicate q 0) ∙ ap length (sym h) in
    sym (ap (λ zs. ordering_then (slice_cmp nat_cmp (x ∷ xs) zs) (nat_cmp (suc m) 0)) h
    ∙ ap (ordering_then (slice_cmp nat_cmp (x ∷ xs) (replicate q 0))) (sym (nat_cmp_is (suc m) 0 Greater (omega arith)))
    ∙ none_above q (x ∷ xs) (omega arith))
fronts (suc m) (suc n) p q [] ys a b e g h = absurd (omega arith)
fronts (suc m) (suc n) p q (x ∷ xs) [] a b e g h = absurd (omega arith)
fronts (suc m) (suc n) p q (x ∷ xs) (y ∷ ys) a b e g h =
    ap (ordering_then (nat_cmp x y)) (fronts m n p q xs ys (omega arith) (omega arith) (omega arith) g h)
    ∙ then_assoc (nat_cmp x y) (slice_cmp nat_cmp xs ys) (nat_cmp m n)
    ∙ ap (ordering_then (ordering_then (nat_cmp x y) (slice_cmp nat_cmp xs ys))) (next_cmp m n)

pub padded_order : (max m n : ℕ) (xs ys : List ℕ) → IsPadded max m xs → IsPadded max n ys
    → slice_cmp nat_cmp (take m xs) (take n ys) ≡ ordering_then (slice_cmp nat_cmp xs ys) (nat_cmp m n)
padded_order max m n xs ys g h =
    fronts m n (max - m) (max - n) xs ys (omega (arith, g.within, g.whole)) (omega (arith, h.within, h.whole)) (g.whole ∙ sym h.whole) g.rest h.rest

-- numbers that differ decide before anything else
pub apart : (x y : ℕ) (r : Ordering) → (x ≡ y → ⊥) → ordering_then (nat_cmp x y) r ≡ nat_cmp x y
apart x y r n = by (nat_cmp x y) (ranks x y)
  where
    by : (o : Ordering) → MatchOrdering o (x < y) (x ≡ y) (y < x) → ordering_then o r ≡ o
    by Less l = refl
    by Equal l = absurd (n l)
    by Greater l = refl

-- ---- eight bytes from a place on
-- n bytes from i + k on, as they are read
abbrev reads : List ℕ → ℕ → ℕ → ℕ → List ℕ
reads xs i k zero = []
reads xs i k (suc n) = get_or xs (i + k) 0 ∷ reads xs i (suc k) n

read_out : (n : ℕ) (xs : List ℕ) (i k : ℕ) → i + k + n ≤ length xs → take n (drop (i + k) xs) ≡ reads xs i k n
read_out zero xs i k le = refl
read_out (suc n) xs i k le =
    let next : suc (i + k) ≡ i + suc k = omega arith in
    ap (take (suc n)) (drop-cons xs (i + k) 0 (omega arith))
    ∙ ap (λ l. get_or xs (i + k) 0 ∷ l) (ap (λ m. take n (drop m xs)) next ∙ read_out n xs i (suc k) (omega arith))

pub eight_are : (xs : List ℕ) (i : ℕ) → i + 8 ≤ length xs
    → get_or xs i 0 * 72057594037927936 + get_or xs (i + 1) 0 * 281474976710656 + get_or xs
    (i + 2) 0 * 1099511627776 + get_or xs (i + 3) 0 * 4294967296
    + get_or xs (i + 4) 0 * 16777216 + get_or xs (i + 5) 0 * 65536 + get_or xs (i + 6) 0 * 256 + get_or xs (i + 7) 0 ≡ big_endian 0 (take 8 (drop i xs))
eight_are xs i le =
    let here : get_or xs (i + 0) 0 ≡ get_or xs i 0 = ap (λ k. get_or xs k 0) (omega arith) in
    let e : i ≡ i + 0 = omega arith in
    omega (arith, here) ∙ sym (ap (big_endian 0) (ap (λ m. take 8 (drop m xs)) e ∙ read_out 8 xs i 0 (omega arith)))

-- ---- two words cover 14 bytes, the second from the seventh byte on
abbrev pub word : ℕ → List ℕ → List ℕ
word i zs = take 8 (drop i zs)

small_taken : (n : ℕ) (xs : List ℕ) → Small xs → Small (take n xs)
small_taken zero xs h k = lit< tt
small_taken (suc n) [] h k = h k
small_taken (suc n) (x ∷ xs) h zero = h 0
small_taken (suc n) (x ∷ xs) h (suc k) = small_taken n xs (λ j. h (suc j)) k

small_word : (i : ℕ) (zs : List ℕ) → Small zs → Small (word i zs)
small_word i zs a = small_taken 8 (drop i zs) (λ k. rw (get_or-drop i zs k 0) (a (i + k)))

module _ (xs ys : List ℕ) (d : length xs ≡ 14) (e : length ys ≡ 14) (g : Small xs) (h : Small ys) where
  words : (i : ℕ) → i + 8 ≤ 14 → slice_cmp nat_cmp (word i xs) (word i ys)
      ≡ nat_cmp (big_endian 0 (word i xs)) (big_endian 0 (word i ys))
  words i le = spelt 0 (word i xs) (word i ys) (grind (arith, common_steps)) (small_word i xs g) (small_word i ys h)

  cut : (i : ℕ) → i ≤ 14 → slice_cmp nat_cmp xs ys
      ≡ ordering_then (slice_cmp nat_cmp (take i xs) (take i ys))
      (slice_cmp nat_cmp (drop i xs) (drop i ys))
  cut i le =
      ap (λ us. slice_cmp nat_cmp us ys) (sym (take-append-drop i xs))
      ∙ ap (slice_cmp nat_cmp (take i xs ++ drop i xs)) (sym (take-append-drop i ys))
      ∙ parted (take i xs) (take i ys) (drop i xs) (drop i ys) (grind (arith, common_steps))

  -- the first words differ
  pub decided : (x y : ℕ) → x ≡ big_endian 0 (word 0 xs) → y ≡ big_endian 0 (word 0 ys)
      → (x ≡ y → ⊥) → nat_cmp x y ≡ slice_cmp nat_cmp xs ys
  decided x y a b n =
      let rest = slice_cmp nat_cmp (drop 8 xs) (drop 8 ys) in
      sym (apart x y rest n)
      ∙ ap (λ z. ordering_then (nat_cmp z y) rest) a
      ∙ ap (λ z. ordering_then (nat_cmp (big_endian 0 (word 0 xs)) z) rest) b
      ∙ ap (λ r. ordering_then r rest) (sym (words 0 (omega arith)))
      ∙ sym (cut 8 (omega arith))

  -- the first words are the same: the second ones decide
  pub last_word : big_endian 0 (word 0 xs) ≡ big_endian 0 (word 0 ys)
      → nat_cmp (big_endian 0 (word 6 xs)) (big_endian 0 (word 6 ys)) ≡ slice_cmp nat_cmp xs ys
  last_word s =
      let level = ap (nat_cmp (big_endian 0 (word 0 xs))) (sym s) ∙ sym (nat_cmp_is (big_endian 0 (word 0 xs)) (big_endian 0 (word 0 xs)) Equal refl) in
      let eight : take 8 xs ≡ take 8 ys = slice_cmp-IsAntisymmetric nat_cmp-IsAntisymmetric (take 8 xs) (take 8 ys) (words 0 (omega arith) ∙ level) in
      let six : take 6 xs ≡ take 6 ys = sym (take-take 6 8 xs (omega arith)) ∙ ap (take 6) eight ∙ take-take 6 8 ys (omega arith) in
      let front : slice_cmp nat_cmp (take 6 xs) (take 6 ys) ≡ Equal = ap (λ us. slice_cmp nat_cmp us (take 6 ys)) six ∙ tied_itself nat_list_cmp_total (take 6 ys) in
      sym (cut 6 (omega arith)
      ∙ ap (λ r. ordering_then r (slice_cmp nat_cmp (drop 6 xs) (drop 6 ys))) front
      ∙ ap (λ us. slice_cmp nat_cmp us (drop 6 ys)) (sym (take_all 8 (drop 6 xs) (omega (arith, length-drop 6 xs))))
      ∙ ap (slice_cmp nat_cmp (word 6 xs)) (sym (take_all 8 (drop 6 ys) (omega (arith, length-drop 6 ys))))
      ∙ words 6 (omega arith))
