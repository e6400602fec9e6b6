-- The year, the month and the day of the month of a number.
use Rattle.std.proofs.Common.{◌≡◌, ◌+◌, ◌-◌, ◌≤◌, ◌<◌, ℕ, zero, suc, Bool, true, false, cond, leb, ltb, pos, refl, sym, ap, ◌∙◌, arith}
use Rattle.std.proofs.lemmas.Bool.{le-leb, lt-leb, ltb-true, ltb-false}
use Rattle.jiff_core.specs.Calendar.{day_count}
use Rattle.jiff_core.proofs.CalendarLemmas.{day_count-day, day_count-day_of_year, day_count-lt_month, day_count-lt_year}
use Rattle.jiff_core.proofs.SignedLemmas.{signed_arith}
use Rattle.sip_reader.specs.Days.{day_number, last_where, year_of, month_of, day_of_month, IsReal, IsNumberOf}
use Rattle.sip_reader.proofs.Numbers.{number_low, first_of}

-- the greatest number that passes
last_where-is : (test : ℕ → Bool) (k i : ℕ) → i ≤ k → test i ≡ true
    → ((j : ℕ) → i < j → j ≤ k → test j ≡ false) → last_where test k ≡ i
last_where-is test zero i le is none = omega (arith, le)
last_where-is test (suc k) i le is none =
    by (test (suc k)) refl (λ fits. last_where-is test k i fits is (λ j low high. none j low (omega (arith, high))))
  where
    at_end : (b : Bool) → ltb k i ≡ b → test (suc k) ≡ false → (i ≤ k → last_where test k ≡ i) → last_where test k ≡ i
    at_end true e f more =
        let same : i ≡ suc k = omega (arith, le, ltb-true k i e) in
        cc (sym is ∙ ap test same ∙ f)
    at_end false e f more = more (ltb-false k i e)

    end : (b : Bool) → ltb i (suc k) ≡ b → test (suc k) ≡ true → suc k ≡ i
    end true e f =
        let never : test (suc k) ≡ false = none (suc k) (ltb-true i (suc k) e) (omega arith) in cc (sym f ∙ never)
    end false e f = omega (arith, le, ltb-false i (suc k) e)

    by : (b : Bool) → test (suc k) ≡ b → (i ≤ k → last_where test k ≡ i) → cond b (suc k) (last_where test k) ≡ i
    by true e more = end (ltb i (suc k)) refl e
    by false e more = at_end (ltb k i) refl e more

starts : (n y m d : ℕ) → IsReal y m d → IsNumberOf n y m d → leb (day_number y 1 1) n ≡ true
unfolding day_number
starts n y m d real number =
    le-leb (day_count (pos y) 1 1 - 366) n (omega (arith, day_count-day_of_year (pos y) m d real.2.0, real.2.0, number))

later : (n y m d j : ℕ) → IsReal y m d → IsNumberOf n y m d → y < j → leb (day_number j 1 1) n ≡ false
unfolding day_number
later n y m d j real number low =
    let lt = day_count-lt_year (pos y) m d (pos j) 1 1 (first_of y m d real) (omega arith) (omega (arith, signed_arith, low)) in
    lt-leb (day_count (pos j) 1 1 - 366) n (omega (arith, lt, number))

pub year_is : (n y m d : ℕ) → IsReal y m d → IsNumberOf n y m d → year_of n ≡ y
unfolding year_of
year_is n y m d real number = last_where-is (λ x. leb (day_number x 1 1) n) 9999 y real.0.1 (starts n y m d real number) (λ j low high. later n y m d j real number low)

month_starts : (n y m d : ℕ) → IsReal y m d → IsNumberOf n y m d → leb (day_number y m 1) n ≡ true
unfolding day_number
month_starts n y m d real number = le-leb (day_count (pos y) m 1 - 366) n (omega (arith, day_count-day (pos y) m d 1 real.2.0 (omega arith), real.2.0, number))

month_later : (n y m d j : ℕ) → IsReal y m d → IsNumberOf n y m d → m < j → leb (day_number y j 1) n ≡ false
unfolding day_number
month_later n y m d j real number low =
    let lt = day_count-lt_month (pos y) m d j 1 (first_of y m d real) (omega arith) low in
    lt-leb (day_count (pos y) j 1 - 366) n (omega (arith, lt, number))

pub month_is : (n y m d : ℕ) → IsReal y m d → IsNumberOf n y m d → month_of n ≡ m
unfolding month_of
month_is n y m d real number =
    rw (year_is n y m d real number) (last_where-is (λ x. leb (day_number y x 1) n) 12 m real.1.1 (month_starts n y m d real number) (λ j low high. month_later n y m d j real number low))

first_day : (n y m d : ℕ) → IsReal y m d → IsNumberOf n y m d → n - day_number y m 1 + 1 ≡ d
unfolding day_number
first_day n y m d real number =
    omega (arith, day_count-day (pos y) m d 1 real.2.0 (omega arith), real.2.0, number, number_low (pos y) m 1 (first_of y m 1 (real.0, real.1, (omega arith, omega (arith, real.2.0, real.2.1)))) (omega (arith, signed_arith, real.0.0)))

pub day_is : (n y m d : ℕ) → IsReal y m d → IsNumberOf n y m d → day_of_month n ≡ d
unfolding day_of_month
day_is n y m d real number =
    rw (year_is n y m d real number, month_is n y m d real number) (first_day n y m d real number)
