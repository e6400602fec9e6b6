-- The rows of the six tables of a base.
use Rattle.std.specs.Prelude.{ℕ, List, [], get_or}

-- a row of a table: its fields
abbrev pub Row : Type 0
Row = List (List ℕ)

-- a field of a row, counted from 0
abbrev pub field : ℕ → Row → List ℕ
field i row = get_or row i []

-- the rows of the six tables, without their headers
pub record Rows : Type 0 where
  pub patrons : List Row
  pub items : List Row
  pub loans : List Row
  pub fees : List Row
  pub closed : List Row
  pub holds : List Row
