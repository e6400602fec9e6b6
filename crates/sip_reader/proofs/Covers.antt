-- Blocks that reach over all bytes.
use Rattle.std.proofs.Common.{◌≡◌, ◌≤◌, ◌+◌, ◌-◌, ◌%◌, ◌^◌, ℕ, Bool, true, false, ◌&&◌, ◌||◌, not, cond, eqb, List, [], ◌∷◌, map, length, get_or, take, drop, replicate, Fits, w8, refl, sym, ap, ap₂, ◌∙◌, arith}
use Rattle.std.proofs.lemmas.List.{length-drop, take-append-drop, take-take, take_all}
use Rattle.std.proofs.lemmas.List.Folds.{list_all-append}
use Rattle.std.proofs.lemmas.Simd.{chunk-fits, length-chunk, zip2_of_maps, zip2_splat}
use Rattle.std.specs.List.{list_all, list_any}
use Rattle.sip_reader.specs.Devices.Bars.{is_clean}
use Rattle.sip_reader.specs.Texts.{is_barred}
use Rattle.sip_reader.proofs.Bits.{chunk_behind, masked, no_bit}
use lib.Bits.{bit_or}
use lib.Lanes.{chunk, mask_l, top, zip2}

-- ---- one block
abbrev hit : ℕ → ℕ → ℕ
hit a b = cond (eqb a b) 255 0

pub no_lane : (n : ℕ) (s : List ℕ) (at : ℕ) → n ≤ 64 → at + n ≤ length s → ((k : ℕ) → Fits w8 (get_or s k 0))
    → eqb (mask_l (map (top 7)
    (zip2 bit_or (zip2 hit (chunk at n s) (replicate n 124))
    (zip2 bit_or (zip2 hit (chunk at n s) (replicate n 13))
    (zip2 hit (chunk at n s) (replicate n 10))))) % 2 ^ 64) 0
    ≡ list_all is_clean (chunk at n s)
no_lane n s at few room fits =
    let here = chunk at n s in
    let long = length-chunk at n s room in
    let f : ℕ → ℕ = λ x. bit_or (hit x 124) (bit_or (hit x 13) (hit x 10)) in
    let lanes : zip2 bit_or (zip2 hit here (replicate n 124)) (zip2 bit_or (zip2 hit here (replicate n 13)) (zip2 hit here (replicate n 10))) ≡ map f here =
    zip2_of_maps bit_or (λ x. hit x 124) (λ x. bit_or (hit x 13) (hit x 10)) here (zip2_splat hit here n 124 long)
    (zip2_of_maps bit_or (λ x. hit x 13) (λ x. hit x 10) here (zip2_splat hit here n 13 long) (zip2_splat hit here n 10 long)) in
    ap (λ m. eqb m 0) (masked f is_barred here _ (omega (arith, long)) (chunk-fits w8 at n s fits) lanes refl) ∙ no_bit is_barred here

pub none_barred : (xs : List ℕ) → not (list_all is_clean xs) ≡ list_any is_barred xs
none_barred [] = refl
none_barred (x ∷ xs) = by (is_barred x) (none_barred xs)
  where
    by : (b : Bool) → not (list_all is_clean xs) ≡ list_any is_barred xs → not (not b && list_all is_clean xs) ≡ (b || list_any is_barred xs)
    by true h = refl
    by false h = h

-- ---- a front and a rest
split : (p : ℕ → Bool) (xs : List ℕ) (n : ℕ) → list_all p xs ≡ (list_all p (take n xs) && list_all p (drop n xs))
split p xs n = ap (list_all p) (sym (take-append-drop n xs)) ∙ list_all-append p (take n xs) (drop n xs)

shared : (a c d : Bool) → ((a && c) && (c && d)) ≡ (a && (c && d))
shared true true d = refl
shared true false d = refl
shared false c d = refl

neither : (a d : Bool) → false ≡ (a && (false && d))
neither true d = refl
neither false d = refl

front_of : (p : ℕ → Bool) (xs : List ℕ) (a b : ℕ) → b ≤ a
    → list_all p (take a xs) ≡ (list_all p (take b xs) && list_all p (take (a - b) (drop b xs)))
front_of p xs a b le =
    split p (take a xs) b ∙ ap₂ (λ x y. list_all p x && list_all p y) (take-take b a xs le) (chunk_behind xs b a)

front_and_rest : (p : ℕ → Bool) (xs : List ℕ) (a b : ℕ) → b ≤ a
    → (list_all p (take a xs) && list_all p (drop b xs)) ≡ list_all p xs
front_and_rest p xs a b le =
    let first = list_all p (take b xs) in
    let middle = list_all p (take (a - b) (drop b xs)) in
    let last = list_all p (drop (a - b) (drop b xs)) in
    let rest = split p (drop b xs) (a - b) in
    ap₂ (λ x y. x && y) (front_of p xs a b le) rest ∙ shared first middle last ∙ ap (λ r. first && r) (sym rest) ∙ sym (split p xs b)

-- a block at the front and one at the end, which may overlap
two_ends : (p : ℕ → Bool) (xs : List ℕ) (w : ℕ) → w ≤ length xs → length xs ≤ w + w
    → (list_all p (chunk 0 w xs) && list_all p (chunk (length xs - w) w xs)) ≡ list_all p xs
two_ends p xs w within all =
    ap (λ r. list_all p (take w xs) && list_all p r) (take_all w (drop (length xs - w) xs) (omega (arith, length-drop (length xs - w) xs)))
    ∙ front_and_rest p xs w (length xs - w) (omega arith)

pub end_decides : (p : ℕ → Bool) (xs : List ℕ) (w : ℕ) (first last : Bool) → w ≤ length xs → length xs ≤ w + w
    → first ≡ list_all p (chunk 0 w xs) → first ≡ true
    → last ≡ list_all p (chunk (length xs - w) w xs) → last ≡ list_all p xs
end_decides p xs w first last within all front passes is =
    is ∙ ap (λ b. b && list_all p (chunk (length xs - w) w xs)) (sym passes ∙ front) ∙ two_ends p xs w within all

pub front_fails : (p : ℕ → Bool) (xs : List ℕ) (w : ℕ) (first : Bool) → w ≤ length xs → length xs ≤ w + w
    → first ≡ list_all p (chunk 0 w xs) → first ≡ false → first ≡ list_all p xs
front_fails p xs w first within all front fails =
    fails ∙ ap (λ b. b && list_all p (chunk (length xs - w) w xs)) (sym fails ∙ front) ∙ two_ends p xs w within all

-- ---- block after block
pub one_more : (p : ℕ → Bool) (xs : List ℕ) (at n : ℕ) → list_all p (take at xs) ≡ true
    → list_all p (chunk at n xs) ≡ true → list_all p (take (at + n) xs) ≡ true
one_more p xs at n before here =
    let back : at + n - at ≡ n = omega arith in
    front_of p xs (at + n) at (omega arith) ∙ ap₂ (λ x y. x && y) before (ap (λ k. list_all p (take k (drop at xs))) back ∙ here)

pub one_fails : (p : ℕ → Bool) (xs : List ℕ) (at n : ℕ) → list_all p (chunk at n xs) ≡ false → false ≡ list_all p xs
one_fails p xs at n here =
    let rest = split p (drop at xs) n in
    neither (list_all p (take at xs)) (list_all p (drop n (drop at xs)))
    ∙ ap (λ b. list_all p (take at xs) && (b && list_all p (drop n (drop at xs)))) (sym here)
    ∙ ap (λ r. list_all p (take at xs) && r) (sym rest) ∙ sym (split p xs at)

pub last_decides : (p : ℕ → Bool) (xs : List ℕ) (at n : ℕ) → list_all p (take at xs) ≡ true
    → length xs ≤ at + n → n ≤ length xs
    → list_all p (chunk (length xs - n) n xs) ≡ list_all p xs
last_decides p xs at n before last within =
    ap (list_all p) (take_all n (drop (length xs - n) xs) (omega (arith, length-drop (length xs - n) xs)))
    ∙ ap (λ b. b && list_all p (drop (length xs - n) xs)) (sym before)
    ∙ front_and_rest p xs at (length xs - n) (omega arith)
