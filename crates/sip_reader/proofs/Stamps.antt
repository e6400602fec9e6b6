-- What the bytes of a date have.
use Rattle.std.proofs.Common.{◌≡◌, ◌≤◌, ℕ, true, List, length, eqb, leb, ◌&&◌}
use Rattle.std.proofs.lemmas.Bool.{and_parts, eqb-true, leb-true}
use Rattle.sip_reader.specs.Dates.{is_stamp, has_digits, has_day, has_time, year_at, two_at}
use Rattle.sip_reader.specs.Days.{is_real}

pub stamp_len : (s : List ℕ) → is_stamp s ≡ true → length s ≡ 18
unfolding is_stamp
stamp_len s h = eqb-true (length s) 18 (and_parts (eqb (length s) 18) (has_digits s && (has_day s && has_time s)) h).0

stamp_day : (s : List ℕ) → is_stamp s ≡ true → has_day s ≡ true
unfolding is_stamp
stamp_day s h = (and_parts (has_day s) (has_time s) (and_parts (has_digits s) (has_day s && has_time s) (and_parts (eqb (length s) 18) (has_digits s && (has_day s && has_time s)) h).1).1).0

pub stamp_year : (s : List ℕ) → is_stamp s ≡ true → year_at s ≤ 9900
stamp_year s h = leb-true (year_at s) 9900 (and_parts (leb (year_at s) 9900) (is_real (year_at s) (two_at 4 s) (two_at 6 s)) (stamp_day s h)).0

pub stamp_real : (s : List ℕ) → is_stamp s ≡ true → is_real (year_at s) (two_at 4 s) (two_at 6 s) ≡ true
stamp_real s h = (and_parts (leb (year_at s) 9900) (is_real (year_at s) (two_at 4 s) (two_at 6 s)) (stamp_day s h)).1
