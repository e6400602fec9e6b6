-- Error detection within a message.
use Rattle.std.proofs.Common.{◌≡◌, ◌<◌, ℕ, suc, zero, List, take, Bool, true, false, refl, sym, subst, arith, inl, inr, ◌∙◌}
use Rattle.std.specs.Prelude.{◌||◌, nat_eq}
use Rattle.std.proofs.lemmas.Bool.{cases_Bool, eqb-true, eq-eqb}
use Rattle.sip_reader.specs.Sum.{has_trailer}
use Rattle.log_pairs.specs.Odd.{has_sum_within}

either : (a b : Bool) → b ≡ true → (a || b) ≡ true
either true b h = refl
either false b h = h

pub sum-within : (n k : ℕ) (m : List ℕ) → k < n → has_trailer (take k m) ≡ true → has_sum_within n m ≡ true
sum-within zero k m below has = absurd (omega arith)
sum-within (suc n) k m below has = elim (cases_Bool (nat_eq k n)) [
  | inl e ↦ let there : has_trailer (take n m) ≡ true = subst (λ (x : ℕ). has_trailer (take x m) ≡ true) (eqb-true k n e) has in rw there refl
  | inr e ↦
      let other : k ≡ n → ⊥ = λ same. let bad : true ≡ false = sym (eq-eqb k n same) ∙ e in cc bad in
      either (has_trailer (take n m)) (has_sum_within n m) (sum-within n k m (omega (arith, other)) has)
]
