-- The day of a due date is read back from what is written of it, in each form.
use Rattle.std.proofs.Common.{◌≡◌, eqb, ℕ, ◌+◌, ◌*◌, ◌-◌, ◌/◌, ◌%◌, ◌<◌, true, false, [], Option, Some, None, refl, ◌∙◌, arith}
use Rattle.std.specs.Prelude.{IfSome}
use Rattle.std.specs.Char.{is_ascii_digit}
use Rattle.std.specs.Int.{IsInRange}
use Rattle.std.specs.Option.{option_map_or}
use Rattle.std.proofs.lemmas.Grind.{common_steps}
use Rattle.circ_policy.specs.declared.due_form.DueForm.{DueForm}
use Rattle.circ_policy.specs.declared.due_form.DueForm.TheVariants as form
use Rattle.sip_reader.specs.Days.{day_at, day_of_month, month_of, year_of}
use Rattle.sip_answer.specs.Devices.ReadBack.{is_bar, is_whole}
use Rattle.sip_answer.specs.DueDates.{date_text, due_text, four_digits, two_digits}
use Rattle.sip_answer.specs.Recorded.{day_in}
use Rattle.sip_answer.proofs.Calendar.{parts_fit, real_day}

-- a digit as it is written
record IsWritten (k : ℕ) : Type 0 where
  digit : is_ascii_digit (48 + k) ≡ true
  clean : is_bar (48 + k) ≡ false
  no_hyphen : eqb (48 + k) 45 ≡ false
  no_slash : eqb (48 + k) 47 ≡ false

written : (k : ℕ) → k < 10 → IsWritten k
written k small =
    record { digit = grind (arith, common_steps); clean = grind (arith, common_steps); no_hyphen = grind (arith, common_steps); no_slash = grind (arith, common_steps) }

-- the digits of a date
record Digits (y m d : ℕ) : Type 0 where
  y1 : IsWritten (y / 100 / 10)
  y2 : IsWritten (y / 100 % 10)
  y3 : IsWritten (y % 100 / 10)
  y4 : IsWritten (y % 100 % 10)
  m1 : IsWritten (m / 10)
  m2 : IsWritten (m % 10)
  d1 : IsWritten (d / 10)
  d2 : IsWritten (d % 10)

digits : (y m d : ℕ) → y < 10000 → m < 100 → d < 100 → Digits y m d
digits y m d ys ms ds = record {
  y1 = written (y / 100 / 10) (omega arith);
  y2 = written (y / 100 % 10) (omega arith);
  y3 = written (y % 100 / 10) (omega arith);
  y4 = written (y % 100 % 10) (omega arith);
  m1 = written (m / 10) (omega arith);
  m2 = written (m % 10) (omega arith);
  d1 = written (d / 10) (omega arith);
  d2 = written (d % 10) (omega arith);
}

-- what four digits and two spell
four : (y : ℕ) → ((48 + y / 100 / 10 - 48) * 10 + (48 + y / 100 % 10 - 48)) * 100 +
    ((48 + y % 100 / 10 - 48) * 10 + (48 + y % 100 % 10 - 48)) ≡ y
four y = omega arith

two : (n : ℕ) → (48 + n / 10 - 48) * 10 + (48 + n % 10 - 48) ≡ n
two n = omega arith

date_read : (f : DueForm) (y m d : ℕ) → Digits y m d → day_in (date_text f y m d) ≡ day_at y m d
unfolding day_in four_digits two_digits
date_read form.Sip y m d h = rw (h.m1.no_hyphen, h.y3.no_slash, h.y1.digit, h.y2.digit, h.y3.digit, h.y4.digit, h.m1.digit, h.m2.digit, h.d1.digit, h.d2.digit, four y, two m, two d) refl
date_read form.Iso y m d h = rw (h.y1.digit, h.y2.digit, h.y3.digit, h.y4.digit, h.m1.digit, h.m2.digit, h.d1.digit, h.d2.digit, four y, two m, two d) refl
date_read form.Us y m d h = rw (h.d2.no_hyphen, h.m1.digit, h.m2.digit, h.d1.digit, h.d2.digit, h.y1.digit, h.y2.digit, h.y3.digit, h.y4.digit, four y, two m, two d) refl

date_clean : (f : DueForm) (y m d : ℕ) → Digits y m d → is_whole (date_text f y m d) ≡ true
unfolding four_digits two_digits
date_clean form.Sip y m d h =
    rw (h.y1.clean, h.y2.clean, h.y3.clean, h.y4.clean, h.m1.clean, h.m2.clean, h.d1.clean, h.d2.clean) refl
date_clean form.Iso y m d h =
    rw (h.y1.clean, h.y2.clean, h.y3.clean, h.y4.clean, h.m1.clean, h.m2.clean, h.d1.clean, h.d2.clean) refl
date_clean form.Us y m d h =
    rw (h.m1.clean, h.m2.clean, h.d1.clean, h.d2.clean, h.y1.clean, h.y2.clean, h.y3.clean, h.y4.clean) refl

day_digits : (n : ℕ) → IsInRange 4_346_020 7_304_483 n → Digits (year_of n) (month_of n) (day_of_month n)
day_digits n range =
    let small = parts_fit n (year_of n) (month_of n) (day_of_month n) (real_day n range) in
    digits (year_of n) (month_of n) (day_of_month n) small.0 small.1 small.2

pub due_read : (f : DueForm) (n : ℕ) → IsInRange 4_346_020 7_304_483 n → day_in (due_text f n) ≡ Some n
unfolding due_text
due_read f n range = date_read f (year_of n) (month_of n) (day_of_month n) (day_digits n range) ∙ real_day n range

pub due_clean : (f : DueForm) (due : Option ℕ) → IfSome due (λ n. IsInRange 4_346_020 7_304_483 n)
    → is_whole (option_map_or (due_text f) due []) ≡ true
unfolding due_text
due_clean f None range = refl
due_clean f (Some n) range = date_clean f (year_of n) (month_of n) (day_of_month n) (day_digits n range)
