-- The rows of a text, and why a reader refuses it: tables are what csv reads by its defaults
-- (comma, double quote, no trimming), with rows of equal length, the first of which is the header,
-- exactly.
use Rattle.std.specs.Prelude.{Bool, true, ℕ, List, [], ◌∷◌, Option, Some, None, length, ◌==◌, if◌then◌else◌}
use Rattle.std.specs.List.{list_all}
use Rattle.std.specs.Cmp.Lexicographic.{pointwise}
use Rattle.std.specs.Option.{option_and_then}
use Rattle.csv.specs.Reading.{default_config, records, strip_bom}
use Rattle.csv.specs.declared.error.ErrorKind.{ErrorKind}
use Rattle.csv.specs.declared.error.ErrorKind.TheVariants as kind
use Rattle.csv_table.specs.declared.TableError.{TableError}
use Rattle.csv_table.specs.declared.TableError.TheVariants as table

-- every record of a text, as csv reads it with its defaults
unfoldable pub records_of : List ℕ → List (List (List ℕ))
records_of text = records default_config (strip_bom text)

-- whether each row has the length of the first
abbrev pub is_even : List (List (List ℕ)) → Bool
is_even [] = true
is_even (first ∷ rest) = list_all (λ (row : List (List ℕ)). length row == length first) rest

-- the rows of a text, where csv takes it: all of one length
abbrev pub rows_of : List ℕ → Option (List (List (List ℕ)))
rows_of text = if is_even (records_of text) then Some (records_of text) else None

-- whether two rows have the same fields
abbrev pub is_row : List (List ℕ) → List (List ℕ) → Bool
is_row = pointwise (pointwise ◌==◌)

-- the rows under a header, where it is the first row
abbrev pub under : List (List ℕ) → List (List (List ℕ)) → Option (List (List (List ℕ)))
under header [] = None
under header (first ∷ rest) = if is_row first header then Some rest else None

-- the rows under the header of a text, where csv takes it and the header is this one
abbrev pub rows_under : List (List ℕ) → List ℕ → Option (List (List (List ℕ)))
rows_under header text = option_and_then (under header) (rows_of text)

-- an error of lengths refuses the text, any other is of memory: over bytes that are at hand a
-- reader gives no other
abbrev pub refusal : ErrorKind → TableError
refusal (kind.UnequalLengths pos expected len) = table.Table
refusal (kind.Io e) = table.Memory
refusal (kind.Utf8 pos err) = table.Memory
refusal kind.OutOfMemory = table.Memory
refusal (kind.Serialize text) = table.Memory
refusal (kind.Deserialize pos err) = table.Memory
