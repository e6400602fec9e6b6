-- The digits of an amount after the point.
use Rattle.std.proofs.Common.{◌≡◌, ℕ, ◌+◌, ◌/◌, ◌%◌, [], ◌∷◌, ◌++◌, refl, arith}
use Rattle.std.specs.Prelude.{codes, decimal}
use Rattle.std.proofs.lemmas.Fmt.{decimal_digit}

pub two_digits : (n : ℕ) → codes "." ++ decimal (n / 10 % 10) ++ decimal (n % 10) ≡ 46 ∷ (48 + n / 10 % 10) ∷ (48 + n % 10) ∷ []
two_digits n = rw (decimal_digit (n / 10 % 10) (omega arith), decimal_digit (n % 10) (omega arith)) refl
