-- Due days are real days.
use Rattle.std.proofs.Common.{◌≡◌, ◌∙◌, ◌≤◌, ◌<◌, ◌+◌, ◌-◌, ℕ, zero, suc, pos, Bool, true, List, Option, Some, None, refl, sym, subst, arith, inl, inr}
use Rattle.std.specs.Prelude.{unwrap_or}
use Rattle.std.specs.List.{find, range_with_len}
use Rattle.std.proofs.lemmas.Bool.{cases_Bool, cases_eq, cases_lt}
use Rattle.jiff_core.specs.Calendar.{day_count, days_in_month}
use Rattle.jiff_core.proofs.CalendarLemmas.{day_count-day, day_count-next_month, day_count-last_of_year, day_count-next_year, day_count-lt_year, day_count-end, days_in_month_bounds}
use Rattle.jiff_core.proofs.MarchLemmas.{day_count-early}
use Rattle.jiff_core.proofs.SignedLemmas.{signed_arith}
use Rattle.sip_reader.specs.Dates.{day_of, is_stamp, two_at, year_at}
use Rattle.sip_reader.specs.Days.{IsNumberOf, IsReal, day_at, day_number}
use Rattle.sip_reader.proofs.Numbers.{first_of, number_low}
use Rattle.sip_reader.proofs.Real.{day_at-some, is_real-fact}
use Rattle.sip_reader.proofs.Stamps.{stamp_real, stamp_year}
use Rattle.circ_policy.specs.Due.{due_day, is_open, next_open}
use Rattle.circ_policy.specs.Terms.{Closed, Terms}
use Rattle.circ_policy.specs.declared.media.Media.{Media}

-- a number that is a real day's
record IsDayNumber (n : ℕ) : Type 0 where
  year : ℕ
  month : ℕ
  day : ℕ
  real : IsReal year month day
  number : IsNumberOf n year month day

first_day : IsDayNumber 4_346_020
first_day = record {
  year = 1900;
  month = 1;
  day = 1;
  real = ((omega arith, omega arith), (omega arith, omega arith), (omega arith, omega arith));
  number = omega (arith, day_count-early (pos 1900) 11899 1 1 refl (omega arith) (omega arith) (omega arith));
}

-- the day after the last one of a year
last_day : (n y m d : ℕ) → n + 1 ≤ 7_304_483 → IsReal y m d → IsNumberOf n y m d → days_in_month (pos y) m ≤ d → m ≡ 12 → IsDayNumber (n + 1)
last_day n y m d most real number past twelve =
    let dec : IsNumberOf n y 12 d = subst (λ x. IsNumberOf n y x d) twelve number in
    let long : 31 ≤ d = subst (λ x. days_in_month (pos y) x ≤ d) twelve past in
    let short : d ≤ 31 = subst (λ x. d ≤ days_in_month (pos y) x) twelve real.2.1 in
    let last = day_count-last_of_year (pos y) in
    let more = day_count-next_year (pos y) (pos (y + 1)) (omega (arith, signed_arith)) (omega (arith, signed_arith)) in
    let days = day_count-day (pos y) 12 d 31 real.2.0 (omega arith) in
    let inside : y < 9999 = elim (cases_eq y 9999) [
      | inl e ↦ (let end : day_count (pos (y + 1)) 1 1 ≡ 7_304_850 = subst (λ x. day_count (pos (x + 1)) 1 1 ≡ 7_304_850) (sym e) day_count-end in
          absurd (omega (arith, end, more, last, days, dec, most, long, short)))
      | inr ne ↦ omega (arith, ne, real.0.1)
    ] in
    record {
      year = y + 1;
      month = 1;
      day = 1;
      real = ((omega (arith, real.0.0), omega (arith, inside)), (omega arith, omega arith), (omega arith, omega arith));
      number = omega (arith, more, last, days, dec, long, short);
    }

-- the day after a day
next_day : (n y m d : ℕ) → n + 1 ≤ 7_304_483 → IsReal y m d → IsNumberOf n y m d → IsDayNumber (n + 1)
next_day n y m d most real number = elim (cases_lt d (days_in_month (pos y) m)) [
  | inl inside ↦ record {
    year = y;
    month = m;
    day = d + 1;
    real = (real.0, real.1, (omega arith, omega (arith, inside)));
    number = omega (arith, number, day_count-day (pos y) m d (d + 1) real.2.0 (omega arith));
  }
  | inr past ↦ elim (cases_lt m 12) [
    | inl before ↦ (let dim = days_in_month_bounds (pos y) (m + 1) in record {
      year = y;
      month = m + 1;
      day = 1;
      real = (real.0, (omega arith, omega (arith, before)), (omega arith, omega (arith, dim)));
      number = omega (arith, number, real.2.1, past, day_count-day (pos y) m d 1 real.2.0 (omega arith), day_count-next_month (pos y) m real.1.0);
    })
    | inr december ↦ last_day n y m d most real number past (omega (arith, december, real.1.1))
  ]
]

from_first : (k : ℕ) → 4_346_020 + k ≤ 7_304_483 → IsDayNumber (4_346_020 + k)
from_first zero most = first_day
from_first (suc k) most =
    let h = from_first k (omega (arith, most)) in
    let e : 4_346_020 + k + 1 ≡ 4_346_020 + suc k = omega arith in
    subst IsDayNumber e (next_day (4_346_020 + k) h.year h.month h.day (omega (arith, most)) h.real h.number)

-- each number of the range is a real day's
pub day-real : (n : ℕ) → 4_346_020 ≤ n → n ≤ 7_304_483 → (year : ℕ) × (month : ℕ) × (day : ℕ) × (day_at year month day ≡ Some n)
day-real n low high =
    let e : 4_346_020 + (n - 4_346_020) ≡ n = omega (arith, low) in
    let h : IsDayNumber n = subst IsDayNumber e (from_first (n - 4_346_020) (omega (arith, low, high))) in
    (h.year, h.month, h.day, day_at-some n h.year h.month h.day h.real h.number)

-- ---- the first open day is soon
find_soon : (p : ℕ → Bool) (first k n : ℕ) → find p (range_with_len first k) ≡ Some n → (first ≤ n) × (n < first + k)
find_soon p first zero n e = absurd (cc e)
find_soon p first (suc k) n e = elim (cases_Bool (p first)) [
  | inl on ↦ (let same : Some first ≡ Some n = sym (rw on refl) ∙ e in let is : first ≡ n = cc same in (omega (arith, is), omega (arith, is)))
  | inr off ↦ (let h = find_soon p (first + 1) k n (sym (rw off refl) ∙ e) in (omega (arith, h.0), omega (arith, h.1)))
]

open_soon : (closed : Closed) (first : ℕ) → (first ≤ next_open closed first) × (next_open closed first < first + 2807)
unfolding next_open
open_soon closed first = by (find (is_open closed) (range_with_len first 2807)) refl
  where
    by : (o : Option ℕ) → find (is_open closed) (range_with_len first 2807) ≡ o → (first ≤ unwrap_or o first) × (unwrap_or o first < first + 2807)
    by None e = (omega arith, omega arith)
    by (Some n) e = find_soon (is_open closed) first 2807 n e

number_back : (y m d : ℕ) → 366 ≤ day_count (pos y) m d → IsNumberOf (day_number y m d) y m d
unfolding day_number
number_back y m d low = omega (arith, low)

-- a message's date is a day up to the year 9900
date_range : (date : List ℕ) → is_stamp date ≡ true → (4_346_020 ≤ day_of date) × (day_of date ≤ 7_268_324)
unfolding day_of
date_range date stamp =
    let y = year_at date in
    let real = is_real-fact y (two_at 4 date) (two_at 6 date) (stamp_real date stamp) in
    let civil = first_of y (two_at 4 date) (two_at 6 date) real in
    let low = number_low (pos y) (two_at 4 date) (two_at 6 date) civil (omega (arith, signed_arith, real.0.0)) in
    let number = number_back y (two_at 4 date) (two_at 6 date) (omega (arith, low)) in
    let early = day_count-lt_year (pos y) (two_at 4 date) (two_at 6 date) (pos 9901) 1 1 civil (omega arith) (omega (arith, signed_arith, stamp_year date stamp)) in
    let end = day_count-early (pos 9901) 19900 1 1 refl (omega arith) (omega arith) (omega arith) in
    (omega (arith, number, low), omega (arith, number, early, end))

-- the due day of a loan is a real day
pub due-real : (p : Terms) (date : List ℕ) (media : Media) → is_stamp date ≡ true → media.days ≤ 3650
    → (year : ℕ) × (month : ℕ) × (day : ℕ) × (day_at year month day ≡ Some (due_day p (day_of date) media))
unfolding due_day
due-real p date media stamp short =
    let range = date_range date stamp in
    let soon = open_soon p.closed (day_of date + media.days) in
    day-real (next_open p.closed (day_of date + media.days)) (omega (arith, range.0, soon.0)) (omega (arith, range.1, soon.1, short))

-- so is the day of a date
pub stamp-day : (date : List ℕ) → is_stamp date ≡ true → (year : ℕ) × (month : ℕ) × (day : ℕ) × (day_at year month day ≡ Some (day_of date))
stamp-day date stamp = let range = date_range date stamp in day-real (day_of date) range.0 (omega (arith, range.1))
