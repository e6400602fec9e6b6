-- What differs between two sides of a table, as rows under the header table, id, column, left,
-- right.
use Rattle.std.specs.Prelude.{◌∷◌, ◌++◌, [], ℕ, Bool, List, Option, None, Some, codes, map, if◌then◌else◌}
use Rattle.std.specs.List.{flat_map}
use Rattle.std.specs.Str.{bytes_eq}
use Rattle.csv_table.specs.Text.{Written, table_text}
use Rattle.table_diff.specs.Rows.{RowTexts, alone, each, named, says, surplus, value_at}
use Rattle.table_diff.specs.declared.differences.TableSide.{TableSide}
use Rattle.table_diff.specs.declared.differences.TableSide.TheVariants as side

abbrev pub header : List (List ℕ)
header = codes "table" ∷ codes "id" ∷ codes "column" ∷ codes "left" ∷ codes "right" ∷ []

-- what two rows of one name have in a column, where it isn't the same
abbrev pub change_at : List ℕ → RowTexts → RowTexts → ℕ → List ℕ → List (List (List ℕ))
change_at table left right place column =
    if bytes_eq (value_at place left) (value_at place right) then []
    else (table ∷ left.name ∷ column ∷ value_at place left ∷ value_at place right ∷ []) ∷ []

-- each column in which two rows of one name differ, with the value that each side has
abbrev pub changes : List ℕ → List (List ℕ) → RowTexts → RowTexts → List (List (List ℕ))
changes table columns left right = each (change_at table left right) columns

abbrev pub changes_where : List ℕ → List (List ℕ) → RowTexts → Option RowTexts
    → List (List (List ℕ))
changes_where table columns row None = []
changes_where table columns row (Some other) = changes table columns row other

-- what differs between a row of the left and the right's row of its name, where it has one
abbrev pub changes_to : List ℕ → List (List ℕ) → List RowTexts → RowTexts → List (List (List ℕ))
changes_to table columns right row = changes_where table columns row (named right row.name)

-- a row that only one side has: its name, and what it says on that side
abbrev pub one_sided : TableSide → List ℕ → List ℕ → List ℕ → List (List ℕ)
one_sided side.Left table name text = table ∷ name ∷ codes "(row)" ∷ text ∷ [] ∷ []
one_sided side.Right table name text = table ∷ name ∷ codes "(row)" ∷ [] ∷ text ∷ []

abbrev pub only_in : TableSide → List ℕ → List (List ℕ) → RowTexts → List (List ℕ)
only_in s table columns row = one_sided s table row.name (says columns row)

-- the rows of one side that the other lacks. If names are made by the keeper of the table, a row
-- whose name the other side lacks is the same as one of another name that says the same, and each
-- stands for one.
abbrev pub lacking : List (List ℕ) → Bool → List RowTexts → List RowTexts → List RowTexts
lacking columns renamed rows others =
    if renamed then surplus columns (alone rows others) (alone others rows) else alone rows others

-- all that differs: the values of rows of one name, the rows that the right lacks, and those that
-- the left lacks
abbrev pub differences : List ℕ → List (List ℕ) → Bool → List RowTexts → List RowTexts
    → List (List (List ℕ))
differences table columns renamed left right =
    flat_map (changes_to table columns right) left
    ++ map (only_in side.Left table columns) (lacking columns renamed left right)
    ++ map (only_in side.Right table columns) (lacking columns renamed right left)

-- a table with these rows more
abbrev pub with_rows : List (List (List ℕ)) → Written → Written
with_rows rows t = record { width = t.width; text = t.text ++ table_text rows }
