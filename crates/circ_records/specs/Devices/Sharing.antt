-- For proofs alone: what a shared value is once a borrow of it has ended.
use Rattle.std.specs.Prelude.{◌≡◌, ◌⊎◌, Result}
use Rattle.std.specs.Borrow.{LendsSoOk, MutBor, Fml, RattleType}
use Rattle.circ_records.specs.contracts.shared.Shared.{the_row}

-- s ends as the last value that was written through r, and where r is an `Err`, as it was or as a
-- clone of that
abbrev pub LendsMade : (R : RattleType) → (R.Denot → R.Denot → Type 0) → MutBor R.Denot
    → {E : Type 0} → Result (MutBor R.Denot) E → Fml
LendsMade R is_clone s r =
    LendsSoOk (the_row R) R s r (λ n w. n ≡ w) (λ n. (n ≡ s.now) ⊎ is_clone s.now n)
