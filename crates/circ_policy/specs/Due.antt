-- Open days and due days.
use Rattle.std.specs.Prelude.{◌≡◌, ◌≤◌, ◌<◌, ◌+◌, ◌-ℤ◌, ◌&&◌, not, Bool, true, false, ℕ, pos, get_or, unwrap_or}
use Rattle.jiff_core.specs.Calendar.{weekday_number}
use Rattle.std.specs.BTreeMap.{is_at}
use Rattle.std.specs.List.{find, list_any, range_with_len}
use Rattle.std.specs.Ordering.{nat_cmp}
use Rattle.circ_policy.specs.Terms.{Closed, Terms}
use Rattle.circ_policy.specs.declared.media.Media.{Media}

-- the weekday of a day by its number, with Monday as 0, as jiff's calendar has it: jiff counts from
-- 1 January 1970
unfoldable pub weekday : ℕ → ℕ
weekday day = weekday_number (pos day -ℤ pos 4_371_587)

-- whether the library is open on a day: neither its weekday is closed nor its date
abbrev pub is_open : Closed → ℕ → Bool
is_open closed day =
    not (get_or closed.weekdays (weekday day) true)
    && not (list_any (is_at (nat_cmp day)) closed.dates)

-- the least open day from a day on
abbrev pub IsLeastOpen : Closed → ℕ → ℕ → Type 0
IsLeastOpen closed first day =
    (first ≤ day) × (is_open closed day ≡ true)
    × ((n : ℕ) → first ≤ n → n < day → is_open closed n ≡ false)

-- the first open day from a day on: within 401 weeks, since a weekday is open and at most 400 dates
-- are closed
unfoldable pub next_open : Closed → ℕ → ℕ
next_open closed first = unwrap_or (find (is_open closed) (range_with_len first 2807)) first

-- the number of 1 January 9999; each due day is before it
abbrev pub FIRST_DAY_OF_9999 : ℕ
FIRST_DAY_OF_9999 = 7_304_119

-- Due day: the first open day at or after the day of the loan plus the days of the media type
unfoldable pub due_day : Terms → ℕ → Media → ℕ
due_day p day media = next_open p.closed (day + media.days)
