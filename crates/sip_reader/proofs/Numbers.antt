-- Day numbers, as jiff counts days.
use Rattle.std.proofs.Common.{◌≡◌, ℕ, ◌+◌, ◌≤◌, refl, arith, ℤ, pos, negsuc, ◌+ℤ◌, ◌<ℤ◌, ◌≤ℤ◌}
use Rattle.std.proofs.lemmas.Int.{by_lt_z}
use Rattle.jiff_core.specs.Calendar.{IsCivilDate, day_count, days_from_civil}
use Rattle.jiff_core.specs.Date.{IsYmd, epoch_day}
use Rattle.jiff_core.specs.declared.civil.date.Date.{Date}
use Rattle.jiff_core.proofs.CalendarLemmas.{day_count-day_of_year, day_count-lt_year, day_count_bounds, days_from_civil-day_count, days_in_month_bounds}
use Rattle.jiff_core.proofs.DateLemmas.{civil, epoch_day_injective}
use Rattle.jiff_core.proofs.MarchLemmas.{day_count-early}
use Rattle.jiff_core.proofs.SignedLemmas.{signed_arith}
use Rattle.std.specs.Prelude.{Some, Result, Ok, Err, IfOk}
use Rattle.std.specs.Result.{result_ok}
use Rattle.std.proofs.lemmas.Int.{ints}
use mir.Val.{Fits, of_z, to_z}
use lib.Dec.{T}
use lib.IntN.{nat_abs}
use lib.Signed.{non_neg}
use mir.Syntax.{w8, w16}
use Rattle.sip_reader.specs.Days.{IsNumberOf, IsReal}

day_count-1900 : day_count (pos 1900) 1 1 ≡ 4_346_386
day_count-1900 = day_count-early (pos 1900) 11899 1 1 refl (omega arith) (omega arith) (omega arith)

-- the number that jiff gives
pub number_is : (y : ℤ) (m d n : ℕ) → days_from_civil y m d +ℤ pos 4_371_587 ≡ pos n → n + 366 ≡ day_count y m d
number_is y m d n e = omega (arith, signed_arith, days_from_civil-day_count y m d)

pub real_small : (y m d : ℕ) → IsReal y m d → (m ≤ 12) × (d ≤ 31)
real_small y m d h = (omega arith, omega (arith, days_in_month_bounds (pos y) m))

-- a day from 1900 on is at or after its first day
pub from_1900 : (y : ℤ) (m d : ℕ) → IsCivilDate y m d → 4_346_386 ≤ day_count y m d → pos 1900 ≤ℤ y
from_1900 y m d h low =
    by_lt_z y (pos 1900) (λ lt. absurd (omega (arith, day_count-lt_year y m d (pos 1900) 1 1 h (omega arith) lt, day_count-1900))) (λ ge. ge)

pub first_of : (y m d : ℕ) → IsReal y m d → IsCivilDate (pos y) m d
first_of y m d h = ((omega (arith, signed_arith), omega (arith, signed_arith)), h.1, h.2)

-- a day from 1900 on has no smaller number than the first one
pub number_low : (y : ℤ) (m d : ℕ) → IsCivilDate y m d → pos 1900 ≤ℤ y → 4_346_386 ≤ day_count y m d
number_low y m d h low = by_lt_z (pos 1900) y
    (λ lt. omega (arith, day_count-lt_year (pos 1900) 1 1 y m d first h.2.0 lt, day_count-1900))
    (λ ge. let same : y ≡ pos 1900 = omega (arith, signed_arith) in rw same (omega (arith, day_count-day_of_year (pos 1900) m d h.2.0, day_count-1900, h.2.0)))
  where
    first : IsCivilDate (pos 1900) 1 1
    first = ((omega (arith, signed_arith), omega (arith, signed_arith)), (omega arith, omega arith), (omega arith, omega arith))

-- a number names one day
pub only_date : (a : Date) (y m d : ℕ) → IsReal y m d
    → day_count a.year a.month a.day ≡ day_count (pos y) m d
    → (a.year ≡ pos y) × (a.month ≡ m) × (a.day ≡ d)
only_date a y m d h e =
    let c = first_of y m d h in
    let b : Date = record { year = pos y; month = m; day = d; year_in = c.0; month_in = c.1; day_in = c.2 } in
    epoch_day_injective a b (omega (arith, signed_arith, days_from_civil-day_count a.year a.month a.day, days_from_civil-day_count (pos y) m d))

-- the date that jiff made of parts
pub made : {E : Type 0} (r : Result Date E) (date : Date) (y m d : ℤ) → IfOk r (IsYmd y m d)
    → Some date ≡ result_ok r → IsYmd y m d date
made (Ok x) date y m d h e = let same : date ≡ x = cc e in rw same h
made (Err x) date y m d h e = cc e

pub of_number : (date : Date) (y m d n : ℕ) → IsYmd (to_z w16 y) (to_z w8 m) (to_z w8 d) date
    → y ≤ 9999 → m ≤ 12 → d ≤ 31 → epoch_day date +ℤ pos 4_371_587 ≡ pos n → IsNumberOf n y m d
of_number date y m d n h a b c e =
    let year : date.year ≡ pos y = omega (arith, ints, h.0) in
    let month : date.month ≡ m = omega (arith, ints, h.1) in
    let day : date.day ≡ d = omega (arith, ints, h.2) in
    rw (← year, ← month, ← day) (number_is date.year date.month date.day n e)

-- the range of what jiff gives
pub of_range : (date : Date) (y n : ℕ) → date.year ≡ to_z w16 y → 1900 ≤ y → y ≤ 9999
    → epoch_day date +ℤ pos 4_371_587 ≡ pos n → (4_346_020 ≤ n) × (n ≤ 7_304_483)
of_range date y n h a b e =
    let year : pos 1900 ≤ℤ date.year = omega (arith, ints, signed_arith) in
    let k = number_is date.year date.month date.day n e in
    let low = number_low date.year date.month date.day (civil date) year in
    let high = day_count_bounds date.year date.month date.day (civil date) in
    (omega arith, omega arith)

-- a year of the library from 1900 on
nat_year : (z : ℤ) → pos 1900 ≤ℤ z → z ≤ℤ pos 9999 → (y : ℕ) × (z ≡ pos y) × (1900 ≤ y) × (y ≤ 9999)
nat_year (pos y) low high = (y, refl, omega (arith, signed_arith), omega (arith, signed_arith))
nat_year (negsuc y) low high = absurd (omega (arith, signed_arith))

-- the year of a date whose number lies in the range
pub year_of : (a : Date) (n : ℕ) → epoch_day a +ℤ pos 4_371_587 ≡ pos n → 4_346_020 ≤ n
    → (y : ℕ) × (a.year ≡ pos y) × (1900 ≤ y) × (y ≤ 9999) × IsReal y a.month a.day
    × IsNumberOf n y a.month a.day
year_of a n e low =
    let k = number_is a.year a.month a.day n e in
    let (y, is, from, to) = nat_year a.year (from_1900 a.year a.month a.day (civil a) (omega arith)) (a.year_in.1) in
    (y, is, from, to, ((from, to), a.month_in, rw is at a.day_in), rw is at k)

-- such a year, cast
pub cast_year : (z : ℤ) (y : ℕ) → z ≡ pos y → y ≤ 9999 → to_z w16 (of_z w16 z) ≡ pos y
cast_year z y e h = rw e (omega (arith, ints))

pub year_fits : (z : ℤ) (y : ℕ) → z ≡ pos y → y ≤ 9999 → T (non_neg z) × Fits w16 (nat_abs z)
year_fits z y e h = rw e (tt, omega arith)

-- no day up to the year 9900 has a greater number than its last one
pub number_early : (date : Date) (y n : ℕ) → date.year ≡ to_z w16 y → y ≤ 9900
    → epoch_day date +ℤ pos 4_371_587 ≡ pos n → n ≤ 7_268_324
number_early date y n h le e =
    let before : date.year <ℤ pos 9901 = omega (arith, ints, signed_arith) in
    let k = number_is date.year date.month date.day n e in
    omega (arith, day_count-lt_year date.year date.month date.day (pos 9901) 1 1 (civil date) (omega arith) before, day_count-early (pos 9901) 19900 1 1 refl (omega arith) (omega arith) (omega arith))
