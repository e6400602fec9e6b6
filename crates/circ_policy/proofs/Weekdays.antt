-- The weekday of a day's number, and whether the library is open on the day.
use Rattle.std.proofs.Common.{◌≡◌, ◌∙◌, ◌%◌, ◌+ℤ◌, ◌-ℤ◌, ℕ, ℤ, pos, ◌&&◌, Bool, true, length, get_or, refl, arith}
use Rattle.std.specs.Prelude.{not}
use Rattle.std.specs.BTreeMap.{is_at}
use Rattle.std.specs.List.{list_any}
use Rattle.std.specs.Ordering.{nat_cmp}
use Rattle.std.proofs.lemmas.List.{get_or_default}
use Rattle.jiff_core.proofs.CalendarLemmas.{weekday_number-parts}
use Rattle.jiff_core.proofs.SignedLemmas.{signed_arith}
use Rattle.jiff_core.specs.Calendar.{weekday_number}
use Rattle.circ_policy.specs.Due.{is_open, weekday}
use Rattle.circ_policy.specs.Terms.{Closed}

of_epoch_day : (z : ℤ) (n : ℕ) → z +ℤ pos 4_371_587 ≡ pos n → weekday_number z ≡ n % 7
of_epoch_day z n e = weekday_number-parts z ∙ omega (arith, signed_arith)

pub weekday-lem : (n : ℕ) → weekday n ≡ n % 7
unfolding weekday
weekday-lem n = of_epoch_day (pos n -ℤ pos 4_371_587) n (omega (arith, signed_arith))

pub open_on : (closed : Closed) (n : ℕ) (d : Bool) → length closed.weekdays ≡ 7
    → is_open closed n ≡ (not (get_or closed.weekdays (n % 7) d) && not (list_any (is_at (nat_cmp n)) closed.dates))
open_on closed n d seven = rw (weekday-lem n, get_or_default closed.weekdays (n % 7) true d (omega arith)) refl
