-- Days of the Gregorian calendar and their numbers.
use Rattle.std.specs.Prelude.{◌≡◌, ◌+◌, ◌-◌, ◌&&◌, ℕ, zero, suc, Bool, nat_le, Option, Some, None, if◌then◌else◌, pos}
use Rattle.std.specs.Int.{IsInRange}
use Rattle.jiff_core.specs.Calendar.{day_count, days_in_month}

-- whether the Gregorian calendar has this day, in the years 1900 to 9999
unfoldable pub is_real : ℕ → ℕ → ℕ → Bool
is_real y m d =
    (nat_le 1900 y && nat_le y 9999)
    && ((nat_le 1 m && nat_le m 12) && (nat_le 1 d && nat_le d (days_in_month (pos y) m)))

-- how many days lie between 1 January of the year -9999 and this one, as jiff counts them
unfoldable pub day_number : ℕ → ℕ → ℕ → ℕ
day_number y m d = day_count (pos y) m d - 366

-- the number of a day that the calendar has
abbrev pub day_at : ℕ → ℕ → ℕ → Option ℕ
day_at y m d = if is_real y m d then Some (day_number y m d) else None

-- the number of a day that the calendar has, in the years 1900 to 9999
abbrev pub IsDay : ℕ → Type 0
IsDay n = (year : ℕ) × (month : ℕ) × (day : ℕ) × (day_at year month day ≡ Some n)

-- the numbers of the first and of the last day: 1 January 1900 and 31 December 9999
abbrev pub FIRST_DAY : ℕ
FIRST_DAY = 4_346_020

abbrev pub LAST_DAY : ℕ
LAST_DAY = 7_304_483

-- the number of the last day that a stamp may have: 31 December 9900
abbrev pub LAST_STAMP_DAY : ℕ
LAST_STAMP_DAY = 7_268_324

-- the calendar has this day, in the years 1900 to 9999
abbrev pub IsReal : ℕ → ℕ → ℕ → Type 0
IsReal y m d = IsInRange 1900 9999 y × IsInRange 1 12 m × IsInRange 1 (days_in_month (pos y) m) d

-- the number of such a day
abbrev pub IsNumberOf : ℕ → ℕ → ℕ → ℕ → Type 0
IsNumberOf number y m d = number + 366 ≡ day_count (pos y) m d

-- the greatest number up to a limit that passes a test, or 0
abbrev pub last_where : (ℕ → Bool) → ℕ → ℕ
last_where test zero = zero
last_where test (suc k) = if test (suc k) then suc k else last_where test k

-- the last year that begins on a day or before it
unfoldable pub year_of : ℕ → ℕ
year_of n = last_where (λ y. nat_le (day_number y 1 1) n) 9999

-- the last month of that year that does
unfoldable pub month_of : ℕ → ℕ
month_of n = last_where (λ m. nat_le (day_number (year_of n) m 1) n) 12

-- the day of that month
unfoldable pub day_of_month : ℕ → ℕ
day_of_month n = n - day_number (year_of n) (month_of n) 1 + 1

-- the year, the month and the day of the month of a day
abbrev pub date_of : ℕ → ℕ × ℕ × ℕ
date_of n = (year_of n, month_of n, day_of_month n)
