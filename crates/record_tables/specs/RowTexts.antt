-- How the values of a record are written in a row (the profile of this project, base and final
-- tables). Texts and ids are written as they are, whole numbers in decimal, amounts, fee types and
-- types of media as their own definitions say.
use Rattle.std.specs.Prelude.{ℕ, Bool, true, false, ◌+◌, ◌/◌, ◌%◌, List, [], ◌∷◌, ◌++◌, codes}
use Rattle.sip_reader.specs.Bytes as byte
use Rattle.sip_reader.specs.Days.{year_of, month_of, day_of_month}

-- a flag: Y or N
abbrev pub flag_text : Bool → List ℕ
flag_text true = codes "Y"
flag_text false = codes "N"

-- two digits, and four
abbrev pub two_digits : ℕ → List ℕ
two_digits n = (byte.zero + n / 10) ∷ (byte.zero + n % 10) ∷ []

abbrev pub four_digits : ℕ → List ℕ
four_digits n =
    (byte.zero + n / 1000) ∷ (byte.zero + n / 100 % 10) ∷ (byte.zero + n / 10 % 10)
    ∷ (byte.zero + n % 10) ∷ []

-- eight digits of a date: year, month and day of the month
abbrev pub date_text : ℕ → ℕ → ℕ → List ℕ
date_text year month day = four_digits year ++ two_digits month ++ two_digits day

-- the eight digits of a day
unfoldable pub day_text : ℕ → List ℕ
day_text day = date_text (year_of day) (month_of day) (day_of_month day)
