-- The readings of a journal's requests.
use Rattle.std.specs.Prelude.{◌≡◌, ◌+◌, ◌≤◌, ℕ, List, [], ◌∷◌, Option, Some, None, length, map, unwrap_or}
use Rattle.sip_reader.specs.Reading.{reading}
use Rattle.sip_reader.specs.declared.request.Reading.{Reading}
use Rattle.sip_reader.specs.Texts.{line_number_end}
use Rattle.journal_table.specs.Entry.{Entry}

-- the number of a line, and what its request is read as
pub record NumberedReading : Type 0 where
  pub number : ℕ
  pub reading : Reading

-- what the requests of lines are read as
abbrev pub requests_read : List Entry → List Reading
requests_read = map (λ line. reading line.request)

-- a reading is that of some message
abbrev pub IsRead : Reading → Type 0
IsRead r = (message : List ℕ) × (r ≡ reading message)

-- the readings of lines, in order, each with the number of its line
abbrev pub readings_of : List Entry → List NumberedReading
readings_of = map (λ line. record { number = line.number; reading = reading line.request })

-- readings with the numbers from this one on
abbrev pub numbered_from : ℕ → List Reading → List NumberedReading
numbered_from n [] = []
numbered_from n (r ∷ rest) = record { number = n; reading = r } ∷ numbered_from (n + 1) rest

abbrev pub reading_at : NumberedReading → Reading
reading_at r = r.reading

abbrev pub first_read : List NumberedReading → Option ℕ
first_read [] = None
first_read (r ∷ rest) = Some r.number

-- each number is the one before plus one
abbrev pub RisesFrom : ℕ → List NumberedReading → Type 0
RisesFrom n [] = Unit {0}
RisesFrom n (r ∷ rest) = (r.number ≡ n) × RisesFrom (n + 1) rest

abbrev pub Rises : List NumberedReading → Type 0
Rises [] = Unit {0}
Rises (r ∷ rest) = RisesFrom (r.number + 1) rest

-- no number is above 9,999,999,999: the first number and the number of readings add up to at most
-- 10,000,000,000
abbrev pub EndInTime : List NumberedReading → Type 0
EndInTime read = unwrap_or (first_read read) line_number_end + length read ≤ line_number_end
