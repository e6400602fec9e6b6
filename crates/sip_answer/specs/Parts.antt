-- The parts of which a response is made.
use Rattle.std.specs.Prelude.{ℕ, Bool, ◌+◌, ◌-◌, ◌/◌, ◌%◌, nat_lt, List, [], ◌∷◌, ◌++◌, Option, Some, None, if◌then◌else◌, codes}
use Rattle.std.specs.List.{flat_map}
use Rattle.sip_reader.specs.Bytes as byte
use Rattle.sip_reader.specs.Sum.{checksum}
use Rattle.sip_answer.specs.DueDates.{four_digits}

-- A variable field (SIP 2.00): a two-character identifier and a text, closed by a bar.
unfoldable pub field : List ℕ → List ℕ → List ℕ
field id text = id ++ text ++ codes "|"

-- a field that is left out where there is nothing to write
unfoldable pub given : List ℕ → Option (List ℕ) → List ℕ
given id None = []
given id (Some text) = field id text

-- a field that is left out where its text is empty
unfoldable pub filled : List ℕ → List ℕ → List ℕ
filled id [] = []
filled id (x ∷ text) = field id (x ∷ text)

-- the field of each of the texts, one after another
unfoldable pub each : List ℕ → List (List ℕ) → List ℕ
each id texts = flat_map (field id) texts

-- ok (SIP 2.00): 1 or 0
unfoldable pub digit : Bool → List ℕ
digit b = if b then codes "1" else codes "0"

-- a yes or no field (SIP 2.00): Y or N
unfoldable pub flag : Bool → List ℕ
flag b = if b then codes "Y" else codes "N"

-- a position of a patron status (SIP 2.00): Y or a blank
unfoldable pub mark : Bool → List ℕ
mark b = if b then codes "Y" else codes " "

-- the greatest count of four digits
abbrev pub count_max : ℕ
count_max = 9999

-- a count (SIP 2.00): four digits; a greater number is 9999
unfoldable pub count : ℕ → List ℕ
count n = if nat_lt count_max n then codes "9999" else four_digits n

-- an upper-case hexadecimal digit
abbrev pub hex_digit : ℕ → ℕ
hex_digit n = if nat_lt n 10 then byte.zero + n else byte.A - 10 + n

-- four of them
unfoldable pub hex_digits : ℕ → List ℕ
hex_digits n =
    hex_digit (n / 4096) ∷ hex_digit (n / 256 % 16) ∷ hex_digit (n / 16 % 16) ∷ hex_digit (n % 16)
    ∷ []

-- AY, the sequence digit and AZ
abbrev pub detection : ℕ → List ℕ
detection sequence = codes "AY" ++ sequence ∷ codes "AZ"

-- Error detection (SIP 2.00): AY, the request's sequence digit, AZ, and the sum of all bytes before
-- it.
abbrev pub with_sequence : List ℕ → Option ℕ → List ℕ
with_sequence message None = message
with_sequence message (Some sequence) = summed (message ++ detection sequence)
  where
    summed : List ℕ → List ℕ
    summed front = front ++ hex_digits (checksum front)
