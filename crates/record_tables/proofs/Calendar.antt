-- The parts of a day.
use Rattle.std.proofs.Common.{◌≡◌, ℕ, ◌<◌, Some, arith}
use Rattle.sip_reader.specs.Days.{day_at}
use Rattle.sip_reader.proofs.Numbers.{real_small}
use Rattle.sip_reader.proofs.Real.{day_at-facts}

-- they are short enough for their digits
pub parts_fit : (n y m d : ℕ) → day_at y m d ≡ Some n → (y < 10000) × (m < 100) × (d < 100)
parts_fit n y m d is =
    let real = (day_at-facts n y m d is).0 in
    (omega (arith, real.0.1), omega (arith, real_small y m d real), omega (arith, real_small y m d real))
