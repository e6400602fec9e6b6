-- The digits of a sum.
use Rattle.std.proofs.Common.{◌≡◌, ◌<◌, ◌&&◌, inl, inr, ℕ, zero, suc, Bool, true, eqb, get_or, refl, arith}
use Rattle.std.specs.Prelude.{codes}
use Rattle.std.proofs.lemmas.Bool.{and_parts, cases_lt, eqb-true}
use Rattle.sip_answer.specs.Parts.{hex_digit}

-- the first n of the sixteen are in their places
abbrev are_in_place : ℕ → Bool
are_in_place zero = true
are_in_place (suc n) = eqb (get_or (codes "0123456789ABCDEF") n 0) (hex_digit n) && are_in_place n

in_place : (n k : ℕ) → are_in_place n ≡ true → k < n → get_or (codes "0123456789ABCDEF") k 0 ≡ hex_digit k
in_place zero k h small = absurd (omega arith)
in_place (suc n) k h small =
    let parts = and_parts (eqb (get_or (codes "0123456789ABCDEF") n 0) (hex_digit n)) (are_in_place n) h in
    elim (cases_lt k n) [
      | inl below ↦ in_place n k parts.1 below
      | inr top ↦
          let e : k ≡ n = omega arith in
          rw e (eqb-true (get_or (codes "0123456789ABCDEF") n 0) (hex_digit n) parts.0)
    ]

-- the sixteen hexadecimal digits
pub sixteen : (k : ℕ) → k < 16 → get_or (codes "0123456789ABCDEF") k 0 ≡ hex_digit k
sixteen k small = in_place 16 k refl small
