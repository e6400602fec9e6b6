-- The text of a table: its rows as csv writes them by its defaults, a line feed after each, quoted
-- where a field needs it.
use Rattle.std.specs.Prelude.{◌≡◌, ◌<◌, ◌==◌, false, ℕ, List, [], ◌∷◌, ◌++◌, length, map, get_or}
use Rattle.std.specs.Borrow.{Bor}
use Rattle.csv.specs.Writing.{default_writer, row_text}

-- the rows as csv prints them, one after the other
abbrev pub table_text : List (List (List ℕ)) → List ℕ
table_text [] = []
table_text (row ∷ rows) = row_text default_writer row ++ table_text rows

-- a header of some field, whose text doesn't begin as a byte order mark does
abbrev pub IsPlainHeader : List (List ℕ) → Type 0
IsPlainHeader header =
    (0 < length header) × ((get_or (row_text default_writer header) 0 0 == 0xEF) ≡ false)

-- the bytes that slices or texts point to
abbrev pub bytes_of : List (Bor (List ℕ)) → List (List ℕ)
bytes_of = map (λ s. s.now)

-- what was written of a table: how many fields each row has, and the text so far
pub record Written : Type 0 where
  pub width : ℕ
  pub text : List ℕ

-- a table of these rows under this header
abbrev pub written : List (List ℕ) → List (List (List ℕ)) → Written
written header rows = record { width = length header; text = table_text (header ∷ rows) }

-- the same with one row more
abbrev pub with_row : List (List ℕ) → Written → Written
with_row row t = record { width = t.width; text = t.text ++ row_text default_writer row }

abbrev pub text_of : Written → List ℕ
text_of t = t.text
