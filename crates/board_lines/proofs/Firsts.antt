-- The first values of a function.
use Rattle.std.proofs.Common.{◌≡◌, ◌≢◌, ℕ, zero, suc, ◌<◌, ◌∷◌, length, set, get_or, refl, ap₂, arith}
use Rattle.std.specs.Prelude.{replicate}
use Rattle.board_lines.specs.Parts.{first_of}

pub length_first : {A : Type 0} (f : ℕ → A) (n : ℕ) → length (first_of f n) ≡ n
length_first f zero = refl
length_first f (suc n) = let e = length_first (λ i. f (suc i)) n in omega (arith, e)

pub nth_first : {A : Type 0} (f : ℕ → A) (n p : ℕ) (d : A) → p < n → get_or (first_of f n) p d ≡ f p
nth_first f zero p d lt = absurd (omega arith)
nth_first f (suc n) zero d lt = refl
nth_first f (suc n) (suc p) d lt = nth_first (λ i. f (suc i)) n p d (omega arith)

pub same_first : {A : Type 0} (f g : ℕ → A) (n : ℕ) → ((p : ℕ) → g p ≡ f p) → first_of g n ≡ first_of f n
same_first f g zero h = refl
same_first f g (suc n) h = ap₂ (λ x xs. x ∷ xs) (h zero) (same_first (λ i. f (suc i)) (λ i. g (suc i)) n (λ p. h (suc p)))

pub first_replicate : {A : Type 0} (f : ℕ → A) (n : ℕ) (x : A) → ((p : ℕ) → p < n → f p ≡ x) → first_of f n ≡ replicate n x
first_replicate f zero x h = refl
first_replicate f (suc n) x h = ap₂ (λ y ys. y ∷ ys) (h zero (omega arith)) (first_replicate (λ i. f (suc i)) n x (λ p lt. h (suc p) (omega arith)))

-- one value is another
pub set_first : {A : Type 0} (f g : ℕ → A) (n p : ℕ) (x : A) → p < n → g p ≡ x → ((q : ℕ) → q ≢ p → g q ≡ f q) → first_of g n ≡ set (first_of f n) p x
set_first f g zero p x lt is off = absurd (omega arith)
set_first f g (suc n) zero x lt is off = ap₂ (λ y ys. y ∷ ys) is (same_first (λ i. f (suc i)) (λ i. g (suc i)) n (λ q. off (suc q) (λ e. absurd (omega arith))))
set_first f g (suc n) (suc p) x lt is off =
    ap₂ (λ y ys. y ∷ ys) (off zero (λ e. absurd (omega arith)))
    (set_first (λ i. f (suc i)) (λ i. g (suc i)) n p x (omega arith) is (λ q ne. off (suc q) (λ e. ne (omega arith))))
