-- Real days, as a test and as a fact.
use Rattle.std.proofs.Common.{◌≡◌, ◌≤◌, ℕ, Bool, true, false, cond, ◌&&◌, leb, pos, Some, None, refl, arith}
use Rattle.std.proofs.lemmas.Bool.{and_parts, and_from, leb-true, le-leb}
use Rattle.jiff_core.specs.Calendar.{days_in_month}
use Rattle.jiff_core.proofs.CalendarLemmas.{days_in_month_bounds}
use Rattle.jiff_core.proofs.SignedLemmas.{signed_arith}
use Rattle.sip_reader.specs.Days.{is_real, day_number, day_at, IsReal, IsNumberOf}
use Rattle.sip_reader.proofs.Numbers.{number_low, first_of}

pub is_real-fact : (y m d : ℕ) → is_real y m d ≡ true → IsReal y m d
unfolding is_real
is_real-fact y m d e =
    let parts = and_parts (leb 1900 y && leb y 9999) ((leb 1 m && leb m 12) && (leb 1 d && leb d (days_in_month (pos y) m))) e in
    let year = and_parts (leb 1900 y) (leb y 9999) parts.0 in
    let rest = and_parts (leb 1 m && leb m 12) (leb 1 d && leb d (days_in_month (pos y) m)) parts.1 in
    let month = and_parts (leb 1 m) (leb m 12) rest.0 in
    let day = and_parts (leb 1 d) (leb d (days_in_month (pos y) m)) rest.1 in
    ((leb-true 1900 y year.0, leb-true y 9999 year.1), (leb-true 1 m month.0, leb-true m 12 month.1), (leb-true 1 d day.0, leb-true d (days_in_month (pos y) m) day.1))

pub is_real-true : (y m d : ℕ) → IsReal y m d → is_real y m d ≡ true
unfolding is_real
is_real-true y m d h =
    and_from (leb 1900 y && leb y 9999) ((leb 1 m && leb m 12) && (leb 1 d && leb d (days_in_month (pos y) m)))
    (and_from (leb 1900 y) (leb y 9999) (le-leb 1900 y h.0.0) (le-leb y 9999 h.0.1))
    (and_from (leb 1 m && leb m 12) (leb 1 d && leb d (days_in_month (pos y) m))
    (and_from (leb 1 m) (leb m 12) (le-leb 1 m h.1.0) (le-leb m 12 h.1.1))
    (and_from (leb 1 d) (leb d (days_in_month (pos y) m)) (le-leb 1 d h.2.0) (le-leb d (days_in_month (pos y) m) h.2.1)))

-- each month has 28 days
pub early_real : (y m d : ℕ) → 1900 ≤ y → y ≤ 9999 → 1 ≤ m → m ≤ 12 → 1 ≤ d → d ≤ 28 → is_real y m d ≡ true
early_real y m d from to first last begin end =
    is_real-true y m d ((from, to), (first, last), (begin, omega (arith, days_in_month_bounds (pos y) m)))

number_is : (n y m d : ℕ) → IsNumberOf n y m d → day_number y m d ≡ n
unfolding day_number
number_is n y m d h = omega (arith, h)

is_number : (y m d : ℕ) → IsReal y m d → IsNumberOf (day_number y m d) y m d
unfolding day_number
is_number y m d h = omega (arith, number_low (pos y) m d (first_of y m d h) (omega (arith, signed_arith, h.0.0)))

-- the day that these facts give
pub day_at-some : (n y m d : ℕ) → IsReal y m d → IsNumberOf n y m d → day_at y m d ≡ Some n
day_at-some n y m d real number = rw (is_real-true y m d real, number_is n y m d number) refl

-- no day where it isn't real
pub day_at-none : (y m d : ℕ) → (IsReal y m d → false ≡ true) → day_at y m d ≡ None
day_at-none y m d not_real = by (is_real y m d) refl
  where
    by : (b : Bool) → is_real y m d ≡ b → cond b (Some (day_number y m d)) None ≡ None
    by true e = cc (not_real (is_real-fact y m d e))
    by false e = refl

-- the facts that a day gives
pub day_at-facts : (n y m d : ℕ) → day_at y m d ≡ Some n → IsReal y m d × IsNumberOf n y m d
day_at-facts n y m d is = by (is_real y m d) refl is
  where
    by : (b : Bool) → is_real y m d ≡ b → cond b (Some (day_number y m d)) None ≡ Some n
        → IsReal y m d × IsNumberOf n y m d
    by true e s =
        let real = is_real-fact y m d e in
        let same : day_number y m d ≡ n = cc s in
        (real, rw (← same) (is_number y m d real))
    by false e s = cc s
