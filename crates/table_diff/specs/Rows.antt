-- The rows of a table as two sides have them, and which of them a side lacks.
use Rattle.std.specs.Prelude.{◌≡◌, ◌+◌, ◌<◌, ◌∷◌, ◌++◌, [], ℕ, List, Option, codes, get_or, is_none, is_some, length, nat_lt, true, take, count_by, if◌then◌else◌}
use Rattle.std.specs.List.{filter, find}
use Rattle.std.specs.Str.{bytes_eq}

-- a row: the name by which it is found again, and its values
pub record RowTexts : Type 0 where
  pub name : List ℕ
  pub values : List (List ℕ)

abbrev pub value_at : ℕ → RowTexts → List ℕ
value_at place row = get_or row.values place []

-- the first row of a name, where a side has one
abbrev pub named : List RowTexts → List ℕ → Option RowTexts
named rows name = find (λ (r : RowTexts). bytes_eq name r.name) rows

-- the rows of one side whose names the other lacks
abbrev pub alone : List RowTexts → List RowTexts → List RowTexts
alone rows others = filter (λ (r : RowTexts). is_none (named others r.name)) rows

abbrev pub nobody : RowTexts
nobody = record { name = []; values = [] }

-- a row has the name of one before it
abbrev pub HasDouble : List RowTexts → Type 0
HasDouble rows =
    (place : ℕ) × (place < length rows)
    × (is_some (named (take place rows) (get_or rows place nobody).name) ≡ true)

-- a column and its value, closed by a bar as SIP2 closes a field
abbrev pub piece : List ℕ → List ℕ → List ℕ
piece column value = column ++ codes "=" ++ value ++ codes "|"

-- what f gives for each element and its place, from this place on
abbrev pub each_from : {X A : Type 0} → (ℕ → X → List A) → ℕ → List X → List A
each_from f place [] = []
each_from f place (x ∷ xs) = f place x ++ each_from f (place + 1) xs

-- what f gives for each element and its place, one after the other
abbrev pub each : {X A : Type 0} → (ℕ → X → List A) → List X → List A
each f xs = each_from f 0 xs

-- what a row says: each column with its value
abbrev pub says : List (List ℕ) → RowTexts → List ℕ
says columns row = each (λ (place : ℕ) (column : List ℕ). piece column (value_at place row)) columns

-- how many rows say this
abbrev pub copies : List (List ℕ) → List ℕ → List RowTexts → ℕ
copies columns text rows = count_by (λ (r : RowTexts). bytes_eq text (says columns r)) rows

-- a row, where no more of the others say the same than of those before it
abbrev pub left_over : List (List ℕ) → List RowTexts → List RowTexts → RowTexts → List RowTexts
left_over columns before others row =
    if nat_lt (copies columns (says columns row) before) (copies columns (says columns row) others)
    then [] else row ∷ []

-- of rows that say the same, as many as one side has more than the other: the last of them
abbrev pub surplus : List (List ℕ) → List RowTexts → List RowTexts → List RowTexts
surplus columns rows others =
    each (λ (place : ℕ) (row : RowTexts). left_over columns (take place rows) others row) rows
