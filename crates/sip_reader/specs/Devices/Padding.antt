-- For proofs alone: up to a number of bytes, and zeros after them.
use Rattle.std.specs.Prelude.{ℕ, List, ◌++◌, ◌-◌, ◌≤◌, ◌≡◌, length, take, drop, replicate}
use Rattle.std.proofs.Common.{arith}
use Rattle.std.proofs.lemmas.Grind.{common_steps}

-- the first bytes count, and the others are zeros
pub record IsPadded (max len : ℕ) (bytes : List ℕ) : Type 0 where
  pub within : len ≤ max
  pub whole : length bytes ≡ max
  pub rest : drop len bytes ≡ replicate (max - len) 0

pub back : (max len : ℕ) (bytes : List ℕ) → IsPadded max len bytes
    → take len bytes ++ replicate (max - length (take len bytes)) 0 ≡ bytes
back max len bytes h = grind (arith, common_steps, h.rest)

pub front_length : (max len : ℕ) (bytes : List ℕ) → IsPadded max len bytes
    → length (take len bytes) ≡ len
front_length max len bytes h = grind (arith, common_steps, h.whole)
