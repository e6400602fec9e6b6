-- The first open day is the least one.
use Rattle.std.proofs.Common.{◌≡◌, ◌≢◌, ◌≤◌, ◌<◌, ◌+◌, ℕ, zero, suc, Bool, true, false, Some, refl, ap, sym, ◌∙◌, arith, inl, inr}
use Rattle.std.proofs.lemmas.Bool.{cases_Bool, false≢true}
use Rattle.std.specs.List.{find, range_with_len}
use Rattle.circ_policy.specs.Due.{IsLeastOpen, is_open, next_open}
use Rattle.circ_policy.specs.Terms.{Closed}

no_sooner : (p : ℕ → Bool) (first n : ℕ) → p first ≡ true → first ≤ n → (first < n → p first ≡ false) → first ≡ n
no_sooner p first n on le before = omega (arith, λ (lt : first < n). false≢true (sym (before lt) ∙ on))

later : (p : ℕ → Bool) (first n : ℕ) → p first ≡ false → p n ≡ true → first ≤ n → first + 1 ≤ n
later p first n off on le =
    let apart : first ≢ n = λ same. false≢true (sym off ∙ ap p same ∙ on) in
    omega arith

find-range : (p : ℕ → Bool) (first k n : ℕ) → first ≤ n → n < first + k → p n ≡ true
    → ((m : ℕ) → first ≤ m → m < n → p m ≡ false)
    → find p (range_with_len first k) ≡ Some n
find-range p first zero n from to on before = absurd (omega arith)
find-range p first (suc k) n from to on before = elim (cases_Bool (p first)) [
  | inl e ↦ let same : first ≡ n = no_sooner p first n e from (λ lt. before first (omega arith) lt) in rw (e, same) refl
  | inr e ↦ rw e (find-range p (first + 1) k n (later p first n e on from) (omega arith) on (λ m le lt. before m (omega arith) lt))
]

pub next_open-least : (closed : Closed) (first n : ℕ) → IsLeastOpen closed first n
    → n < first + 2807 → n ≡ next_open closed first
unfolding next_open
next_open-least closed first n least soon =
    rw (find-range (is_open closed) first 2807 n least.0 soon least.1 least.2) refl
