-- What can be read in a recorded response.
use Rattle.std.specs.Prelude.{ℕ, Bool, true, false, not, ◌+◌, ◌*◌, ◌&&◌, ◌==◌, nat_le, List, [], ◌∷◌, length, slice_index, Option, Some, None, if◌then◌else◌}
use Rattle.std.specs.Char.{is_ascii_digit}
use Rattle.std.specs.List.{filter_map}
use Rattle.std.specs.Option.{option_and_then, option_map, option_map_or}
use Rattle.sip_reader.specs.Amounts.{amount_of}
use Rattle.sip_reader.specs.Bytes as byte
use Rattle.sip_reader.specs.Dates.{two_at}
use Rattle.sip_reader.specs.Days.{day_at}
use Rattle.sip_reader.specs.Fields.{field, pieces, text_after}
use Rattle.sip_reader.specs.Reading.{is_blank, says_yes}

-- what can't be read lets nothing after it be read
infixl 10 ◌>>=◌
abbrev pub ◌>>=◌ : {A B : Type 0} → Option A → (A → Option B) → Option B
None >>= f = None
(Some x) >>= f = f x

-- the letter Q
abbrev pub Q : ℕ
Q = 81

-- ok (SIP 2.00): 1 or 0
abbrev pub ok_of : ℕ → Option Bool
ok_of b = if b == byte.one then Some true else if b == byte.zero then Some false else None

-- a yes or no field (SIP 2.00): Y or N
abbrev pub flag_of : ℕ → Option Bool
flag_of b = if b == byte.Y then Some true else if b == byte.N then Some false else None

-- the number that the bytes at i and after it spell, where they are digits
abbrev pub number_at : ℕ → List ℕ → Option ℕ
number_at i m =
    if is_ascii_digit (slice_index m i) && is_ascii_digit (slice_index m (i + 1))
    then Some (two_at i m) else None

-- a count (SIP 2.00): four digits
abbrev pub count_at : ℕ → List ℕ → Option ℕ
count_at i m = do
  hundreds ← number_at i m
  ones ← number_at (i + 2) m
  Some (hundreds * 100 + ones)

-- the day whose century, year, month and day of the month are two digits each, from these positions
-- on, where it is a real one of the years 1900 to 9999
abbrev pub day_of_digits : List ℕ → ℕ → ℕ → ℕ → ℕ → Option ℕ
day_of_digits t century year month day = do
  c ← number_at century t
  y ← number_at year t
  m ← number_at month t
  d ← number_at day t
  day_at (c * 100 + y) m d

-- a due date begins with MM/DD/YYYY, if what is there are digits
abbrev pub has_slashes : List ℕ → Bool
has_slashes t =
    nat_le 10 (length t) && ((slice_index t 2 == byte.slash) && (slice_index t 5 == byte.slash))

-- The day of a due date at the front of a text, whatever follows, in one of its forms (the profile
-- of this project): YYYY-MM-DD, MM/DD/YYYY or eight digits.
unfoldable pub day_in : List ℕ → Option ℕ
day_in t =
    if nat_le 10 (length t) && ((slice_index t 4 == byte.hyphen)
    && (slice_index t 7 == byte.hyphen)) then day_of_digits t 0 2 5 8
    else if has_slashes t then day_of_digits t 6 8 0 3
    else if nat_le 8 (length t) then day_of_digits t 0 2 4 6
    else None

-- Due date (AH) of the variable fields.
unfoldable pub due_in : List ℕ → Option ℕ
due_in rest = option_and_then day_in (field byte.A byte.H (pieces rest))

-- its form is the one with slashes
unfoldable pub slashed_in : List ℕ → Bool
slashed_in rest = option_map_or has_slashes (field byte.A byte.H (pieces rest)) false

-- an empty text names no amount, and any other has to be one
abbrev pub fee_of : Option (List ℕ) → Option (Option ℕ)
fee_of None = Some None
fee_of (Some []) = Some None
fee_of (Some (x ∷ text)) = option_map Some (amount_of (x ∷ text))

-- Fee amount (BV) of the variable fields: the one that it names, if any, or that it can't be read.
unfoldable pub fee_in : List ℕ → Option (Option ℕ)
fee_in rest = fee_of (field byte.B byte.V (pieces rest))

-- Permanent location (AQ) of the variable fields: it has at least one byte.
unfoldable pub placed_in : List ℕ → Bool
placed_in rest = not (is_blank (field byte.A Q (pieces rest)))

-- Valid patron (BL) of the variable fields: a yes is Y, all else no.
unfoldable pub valid_in : List ℕ → Bool
valid_in rest = says_yes (field byte.B byte.L (pieces rest))

-- all the items of the variable fields with an identifier, in their order
unfoldable pub items_in : ℕ → ℕ → List ℕ → List (List ℕ)
items_in a b rest = filter_map (text_after a b) (pieces rest)
