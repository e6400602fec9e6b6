-- The lines of a journal, as their contents alone.
use Rattle.std.specs.Prelude.{◌≡◌, ◌≤◌, ◌+◌, ℕ, List, [], ◌∷◌, length, Option, Some, None, unwrap_or}
use Rattle.sip_reader.specs.Texts.{line_number_end}
use Rattle.journal_table.specs.declared.TheConstants.{LINE_LIMIT}

-- a line: its number, the connection that it came over, the request, and the response that was
-- recorded
pub record Entry : Type 0 where
  pub number : ℕ
  pub connection : List ℕ
  pub request : List ℕ
  pub response : List ℕ

-- each number is the one before plus one
abbrev pub NumberedFrom : ℕ → List Entry → Type 0
NumberedFrom n [] = Unit {0}
NumberedFrom n (line ∷ rest) = (line.number ≡ n) × NumberedFrom (n + 1) rest

-- the numbers rise by one; the first may be any
abbrev pub Numbered : List Entry → Type 0
Numbered [] = Unit {0}
Numbered (line ∷ rest) = NumberedFrom (line.number + 1) rest

abbrev pub first_number : List Entry → Option ℕ
first_number [] = None
first_number (line ∷ rest) = Some line.number

-- rule number: no line has a number above 9,999,999,999, so the first number and the number of
-- lines add up to at most 10,000,000,000
abbrev pub EndsInTime : List Entry → Type 0
EndsInTime lines = unwrap_or (first_number lines) line_number_end + length lines ≤ line_number_end

-- the lines of a journal: their numbers rise by one and have at most ten digits, and there are at
-- most 1,000,000
pub record AreLines (lines : List Entry) : Type 0 where
  pub numbered : Numbered lines
  pub few : length lines ≤ LINE_LIMIT
  pub within : EndsInTime lines
