-- How values are written in rows (the profile of this project). An amount is written as in a
-- message.
use Rattle.std.specs.Prelude.{ℕ, Bool, true, false, ◌&&◌, ◌==◌, ◌+◌, nat_le, List, length, slice_index, Option, Some, None, codes, unwrap_or, if◌then◌else◌}
use Rattle.std.specs.Char.{is_ascii_digit}
use Rattle.sip_reader.specs.Amounts.{amount_of}
use Rattle.sip_reader.specs.Dates.{two_at, year_at}
use Rattle.sip_reader.specs.Days.{day_at}
use Rattle.circ_records.specs.Texts.{is_same, decimal_of}

-- a flag: Y or N
unfoldable pub flag_of : List ℕ → Option Bool
flag_of text = if is_same text (codes "Y") then Some true else if is_same text (codes "N") then Some false else None

abbrev pub within : ℕ → Option ℕ → Option ℕ
within greatest None = None
within greatest (Some n) = if nat_le n greatest then Some n else None

-- how often a loan was renewed: 0 to 4,294,967,295 in decimal without leading zeros
unfoldable pub renewals_of : List ℕ → Option ℕ
renewals_of text = within 4294967295 (decimal_of 10 text)

-- two digits are there
abbrev pub are_digits : ℕ → List ℕ → Bool
are_digits i text = is_ascii_digit (slice_index text i) && is_ascii_digit (slice_index text (i + 1))

-- eight digits
unfoldable pub is_date : List ℕ → Bool
is_date text =
    (length text == 8) && (are_digits 0 text
    && (are_digits 2 text && (are_digits 4 text && are_digits 6 text)))

-- a due day: eight digits, YYYYMMDD, of a real day in the years 1900 to 9999
unfoldable pub due_of : List ℕ → Option ℕ
due_of text = if is_date text then day_at (year_at text) (two_at 4 text) (two_at 6 text) else None

-- the hundredths of a text that is an amount
abbrev pub hundredths : List ℕ → ℕ
hundredths text = unwrap_or (amount_of text) 0
