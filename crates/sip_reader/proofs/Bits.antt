-- Bytes of a kind, seen a block at a time.
use Rattle.std.proofs.Common.{◌≡◌, ℕ, zero, suc, ◌+◌, ◌-◌, ◌*◌, ◌%◌, ◌^◌, ◌≤◌, Bool, true, false, not, ◌&&◌, cond, eqb, List, [], ◌∷◌, map, length, take, drop, Fits, w8, refl, sym, ap, ap₂, ◌∙◌, arith, inl, inr}
use Rattle.std.proofs.lemmas.Simd.{mask_l-mod}
use Rattle.std.proofs.lemmas.List.{length-map, take_all}
use Rattle.std.proofs.lemmas.Bool.{agree_below, agree_below_at, cases_eq, eq-eqb, ne_eqb}
use Rattle.std.specs.List.{list_all}
use lib.Lanes.{Each1, mask_l, top}

-- twice a number is 0 where the number is
twice : (m : ℕ) → eqb (0 + 2 * m) 0 ≡ eqb m 0
twice m = elim (cases_eq m 0) [
  | inl none ↦ eq-eqb (0 + 2 * m) 0 (omega arith) ∙ sym (eq-eqb m 0 none)
  | inr some ↦ ne_eqb (0 + 2 * m) 0 (λ e. omega arith) ∙ sym (ne_eqb m 0 some)
]

pub chunk_behind : (xs : List ℕ) (few n : ℕ) → drop few (take n xs) ≡ take (n - few) (drop few xs)
chunk_behind xs zero n = let e : n ≡ n - 0 = omega arith in ap (λ k. take k xs) e
chunk_behind [] (suc few) zero = sym (take_all (0 - suc few) [] (omega arith))
chunk_behind [] (suc few) (suc n) = sym (take_all (suc n - suc few) [] (omega arith))
chunk_behind (x ∷ xs) (suc few) zero = ap (λ k. take k (drop few xs)) none
  where
    none : 0 ≡ 0 - suc few
    none = omega arith
chunk_behind (x ∷ xs) (suc few) (suc n) =
    let less : suc n - suc few ≡ n - few = omega arith in
    chunk_behind xs few n ∙ ap (λ k. take k (drop few xs)) (sym less)

-- no bit is set where no byte is of the kind
pub no_bit : (p : ℕ → Bool) (xs : List ℕ) → eqb (mask_l (map p xs)) 0 ≡ list_all (λ x. not (p x)) xs
no_bit p [] = refl
no_bit p (x ∷ xs) = by (p x) (no_bit p xs)
  where
    by : (b : Bool) → eqb (mask_l (map p xs)) 0 ≡ list_all (λ y. not (p y)) xs
        → eqb (cond b 1 0 + 2 * mask_l (map p xs)) 0 ≡ (not b && list_all (λ y. not (p y)) xs)
    by true h = ne_eqb (1 + 2 * mask_l (map p xs)) 0 (λ e. omega arith)
    by false h = twice (mask_l (map p xs)) ∙ h

-- lanes that are computed byte by byte, held to a test at each of the 256 bytes
each_byte : (f : ℕ → ℕ) (p : ℕ → Bool) → agree_below (λ x. top 7 (f x)) p 256 ≡ true → (xs : List ℕ)
    → Each1 (Fits w8) xs → map (top 7) (map f xs) ≡ map p xs
each_byte f p all [] fits = refl
each_byte f p all (x ∷ xs) fits =
    ap₂ (λ b bs. b ∷ bs) (agree_below_at (λ y. top 7 (f y)) p 256 x all fits.0.fits) (each_byte f p all xs fits.1)

pub masked : (f : ℕ → ℕ) (p : ℕ → Bool) (xs z : List ℕ) → length xs ≤ 64 → Each1 (Fits w8) xs
    → z ≡ map f xs → agree_below (λ x. top 7 (f x)) p 256 ≡ true
    → mask_l (map (top 7) z) % 2 ^ 64 ≡ mask_l (map p xs)
masked f p xs z few fits lanes all =
    ap (λ l. mask_l l % 2 ^ 64) (ap (map (top 7)) lanes ∙ each_byte f p all xs fits) ∙ mask_l-mod (map p xs) 64 (omega (arith, length-map xs p))
