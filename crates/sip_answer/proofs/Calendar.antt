-- The parts of a day.
use Rattle.std.proofs.Common.{◌≡◌, ◌≢◌, ℕ, zero, suc, ◌+◌, ◌-◌, ◌<◌, ◌≤◌, Bool, true, false, cond, leb, pos, ◌⊎◌, inl, inr, Some, refl, sym, ap, ◌∙◌, arith}
use Rattle.std.proofs.lemmas.Bool.{false≢true, leb-true, leb-false, le-leb}
use Rattle.std.specs.Int.{IsInRange}
use Rattle.jiff_core.specs.Calendar.{day_count, days_in_month, days_in_year}
use Rattle.jiff_core.proofs.CalendarLemmas.{day_count-day, day_count-end, day_count-last_of_year, day_count-next_month, day_count-next_year, days_in_month_bounds}
use Rattle.jiff_core.proofs.MarchLemmas.{day_count-early}
use Rattle.jiff_core.proofs.SignedLemmas.{signed_arith}
use Rattle.sip_reader.specs.Days.{day_at, day_number, day_of_month, last_where, month_of, year_of, IsReal}
use Rattle.sip_reader.proofs.Numbers.{first_of, number_low, real_small}
use Rattle.sip_reader.proofs.Real.{day_at-facts, day_at-some}

-- they are short enough for their digits
pub parts_fit : (n y m d : ℕ) → day_at y m d ≡ Some n → (y < 10000) × (m < 100) × (d < 100)
parts_fit n y m d is =
    let real = (day_at-facts n y m d is).0 in
    (omega (arith, real.0.1), omega (arith, real_small y m d real), omega (arith, real_small y m d real))

-- the greatest number that passes: it does, and the next one doesn't
record IsLast (test : ℕ → Bool) (low k i : ℕ) : Type 0 where
  from : low ≤ i
  to : i ≤ k
  passes : test i ≡ true
  next : (i ≡ k) ⊎ (test (i + 1) ≡ false)

last_is : (test : ℕ → Bool) (low k : ℕ) → low ≤ k → test low ≡ true → IsLast test low k (last_where test k)
last_is test low zero le is =
    let none : low ≡ 0 = omega (arith, le) in
    record { from = le; to = omega arith; passes = sym (ap test none) ∙ is; next = inl refl }
last_is test low (suc k) le is = by (test (suc k)) refl (last_is test low k)
  where
    by : (b : Bool) → test (suc k) ≡ b
        → (low ≤ k → test low ≡ true → IsLast test low k (last_where test k))
        → IsLast test low (suc k) (cond b (suc k) (last_where test k))
    by true e before = record { from = le; to = omega arith; passes = e; next = inl refl }
    by false e before = below (before (omega (arith, other)) is)
      where
        other : low ≢ suc k
        other same = false≢true (sym e ∙ ap test (sym same) ∙ is)

        after : (i : ℕ) → (i ≡ k) ⊎ (test (i + 1) ≡ false) → (i ≡ suc k) ⊎ (test (i + 1) ≡ false)
        after i (inl same) = inr (let one : i + 1 ≡ suc k = omega (arith, same) in rw one e)
        after i (inr more) = inr more

        below : IsLast test low k (last_where test k) → IsLast test low (suc k) (last_where test k)
        below h = record { from = h.from; to = omega (arith, h.to); passes = h.passes; next = after (last_where test k) h.next }

day_count-1900 : day_count (pos 1900) 1 1 ≡ 4_346_386
day_count-1900 = day_count-early (pos 1900) 11899 1 1 refl (omega arith) (omega arith) (omega arith)

-- a number that doesn't begin a later part lies before that part
begins : (n y m : ℕ) → leb (day_number y m 1) n ≡ true → day_count (pos y) m 1 ≤ n + 366
unfolding day_number
begins n y m e = omega (arith, leb-true (day_count (pos y) m 1 - 366) n e)

before : (n y m : ℕ) → leb (day_number y m 1) n ≡ false → n + 366 < day_count (pos y) m 1
unfolding day_number
before n y m e = omega (arith, leb-false (day_count (pos y) m 1 - 366) n e)

-- the year in which a number lies
record InYear (n y : ℕ) : Type 0 where
  from : 1900 ≤ y
  to : y ≤ 9999
  first : day_count (pos y) 1 1 ≤ n + 366
  last : n + 366 < day_count (pos y) 1 1 + days_in_year (pos y)

year_fits : (n : ℕ) → IsInRange 4_346_020 7_304_483 n → InYear n (year_of n)
unfolding year_of day_number
year_fits n range =
    let y = last_where (λ y. leb (day_number y 1 1) n) 9999 in
    let is = last_is (λ y. leb (day_number y 1 1) n) 1900 9999 (omega arith) opens in
    record { from = is.from; to = is.to; first = begins n y 1 is.passes; last = ends y is.to is.next }
  where
    opens : leb (day_number 1900 1 1) n ≡ true
    opens = le-leb (day_count (pos 1900) 1 1 - 366) n (omega (arith, day_count-1900, range.0))

    ends : (y : ℕ) → y ≤ 9999 → (y ≡ 9999) ⊎ (leb (day_number (y + 1) 1 1) n ≡ false)
        → n + 366 < day_count (pos y) 1 1 + days_in_year (pos y)
    ends y small (inl same) = rw same (omega (arith, range.1, day_count-next_year (pos 9999) (pos 10000) (omega (arith, signed_arith)) refl, day_count-end))
    ends y small (inr more) = omega (arith, before n (y + 1) 1 more, day_count-next_year (pos y) (pos (y + 1)) (omega (arith, signed_arith)) refl)

-- the month in which it lies
record InMonth (n y m : ℕ) : Type 0 where
  from : 1 ≤ m
  to : m ≤ 12
  first : day_count (pos y) m 1 ≤ n + 366
  last : n + 366 < day_count (pos y) m 1 + days_in_month (pos y) m

december : (y : ℕ) → day_count (pos y) 12 1 + 31 ≡ day_count (pos y) 1 1 + days_in_year (pos y)
december y = omega (arith, day_count-last_of_year (pos y), day_count-day (pos y) 12 1 31 (omega arith) (omega arith))

month_fits : (n y : ℕ) → InYear n y → InMonth n y (last_where (λ m. leb (day_number y m 1) n) 12)
unfolding day_number
month_fits n y year =
    let m = last_where (λ m. leb (day_number y m 1) n) 12 in
    let is = last_is (λ m. leb (day_number y m 1) n) 1 12 (omega arith) opens in
    record { from = is.from; to = is.to; first = begins n y m is.passes; last = ends m is.from is.next }
  where
    opens : leb (day_number y 1 1) n ≡ true
    opens = le-leb (day_count (pos y) 1 1 - 366) n (omega (arith, year.first))

    ends : (m : ℕ) → 1 ≤ m → (m ≡ 12) ⊎ (leb (day_number y (m + 1) 1) n ≡ false)
        → n + 366 < day_count (pos y) m 1 + days_in_month (pos y) m
    ends m low (inl same) = rw same (omega (arith, year.last, december y))
    ends m low (inr more) = omega (arith, before n y (m + 1) more, day_count-next_month (pos y) m low)

-- each number from that of 1 January 1900 to that of 31 December 9999 is a day
day_fits : (n y m : ℕ) → InYear n y → InMonth n y m → day_at y m (n - day_number y m 1 + 1) ≡ Some n
unfolding day_number
day_fits n y m year month =
    let d = n - (day_count (pos y) m 1 - 366) + 1 in
    let short = (days_in_month_bounds (pos y) m).1 in
    let first : IsReal y m 1 = ((year.from, year.to), (month.from, month.to), (omega arith, omega (arith, short))) in
    let low = number_low (pos y) m 1 (first_of y m 1 first) (omega (arith, signed_arith, year.from)) in
    let real : IsReal y m d = ((year.from, year.to), (month.from, month.to), (omega arith, omega (arith, month.first, month.last, low))) in
    day_at-some n y m d real (omega (arith, day_count-day (pos y) m 1 d (omega arith) (omega arith), month.first, low))

pub real_day : (n : ℕ) → IsInRange 4_346_020 7_304_483 n → day_at (year_of n) (month_of n) (day_of_month n) ≡ Some n
unfolding month_of day_of_month
real_day n range =
    let year = year_fits n range in
    day_fits n (year_of n) (last_where (λ m. leb (day_number (year_of n) m 1) n) 12) year (month_fits n (year_of n) year)
