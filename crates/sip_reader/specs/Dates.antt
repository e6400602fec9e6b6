-- Dates and times of messages: YYYYMMDDZZZZHHMMSS (SIP 2.00, dates).
use Rattle.std.specs.Prelude.{ℕ, Bool, ◌&&◌, ◌==◌, nat_lt, nat_le, ◌+◌, ◌-◌, ◌*◌, List, length, take, drop, slice_index, Option, Some, None, if◌then◌else◌}
use Rattle.std.specs.Char.{is_ascii_digit}
use Rattle.std.specs.List.{list_all}
use Rattle.sip_reader.specs.Bytes as byte
use Rattle.sip_reader.specs.Days.{is_real, day_number}

-- how many bytes a date and time has
abbrev pub stamp_len : ℕ
stamp_len = 18

-- the number that two decimal digits spell
abbrev pub two_at : ℕ → List ℕ → ℕ
two_at i s = (slice_index s i - byte.zero) * 10 + (slice_index s (i + 1) - byte.zero)

abbrev pub year_at : List ℕ → ℕ
year_at s = two_at 0 s * 100 + two_at 2 s

-- digits except for the zone, which is any four bytes (the profile of this project)
abbrev pub has_digits : List ℕ → Bool
has_digits s = list_all is_ascii_digit (take 8 s) && list_all is_ascii_digit (drop 12 s)

-- a real day in the years 1900 to 9900 (the profile of this project)
abbrev pub has_day : List ℕ → Bool
has_day s = nat_le (year_at s) 9900 && is_real (year_at s) (two_at 4 s) (two_at 6 s)

-- hours 00 to 23, minutes and seconds 00 to 59 (the profile of this project)
abbrev pub has_time : List ℕ → Bool
has_time s = nat_lt (two_at 12 s) 24 && (nat_lt (two_at 14 s) 60 && nat_lt (two_at 16 s) 60)

-- a date and time
unfoldable pub is_stamp : List ℕ → Bool
is_stamp s = (length s == stamp_len) && (has_digits s && (has_day s && has_time s))

-- the number of its day, as it is written
unfoldable pub day_of : List ℕ → ℕ
day_of s = day_number (year_at s) (two_at 4 s) (two_at 6 s)

-- A further date that isn't one counts as not given (the profile of this project).
abbrev pub given_day : List ℕ → Option ℕ
given_day s = if is_stamp s then Some (day_of s) else None
