-- What the bytes of a journal say: its lines, or why it is refused.
use Rattle.std.specs.Prelude.{◌≡◌, ◌+◌, ℕ, suc, Bool, true, List, [], ◌∷◌, Option, Some, None, Result, Ok, Err, length, get_or, not, nat_lt, ◌==◌, if◌then◌else◌}
use Rattle.csv_table.specs.Rows.{rows_under}
use Rattle.journal_table.specs.Entry.{Entry}
use Rattle.journal_table.specs.Number.{number_of}
use Rattle.schema.specs.Names.{journal_header}
use Rattle.journal_table.specs.declared.TheConstants.{CONNECTION_LIMIT, LINE_LIMIT}
use Rattle.journal_table.specs.declared.error.JournalError.{JournalError}
use Rattle.journal_table.specs.declared.error.JournalError.TheVariants as error
use Rattle.journal_table.specs.declared.error.JournalRule.TheVariants as rule

-- The header of a journal: line, connection, request, response.
abbrev pub header : List (List ℕ)
header = journal_header

-- Rule sequence: the number is the one before plus one; the first may be any.
abbrev pub follows : Option ℕ → ℕ → Bool
follows None number = true
follows (Some before) number = number == before + 1

-- Rules number, sequence and connection, tested in this order: the line of a row whose first field
-- spells this number, or none.
abbrev pub numbered_line : ℕ → Option ℕ → List (List ℕ) → Option ℕ → Result Entry JournalError
numbered_line row before fields None = Err (error.Rule row rule.Number)
numbered_line row before fields (Some number) =
    if not (follows before number) then Err (error.Rule row rule.Sequence)
    else if nat_lt CONNECTION_LIMIT (length (get_or fields 1 []))
    then Err (error.Rule row rule.Connection)
    else Ok (record {
      number = number;
      connection = get_or fields 1 [];
      request = get_or fields 2 [];
      response = get_or fields 3 [];
    })

-- The line of a row, by the number of the line before, or the first rule that the row breaks: rule
-- lines comes before the others.
abbrev pub line_at : ℕ → Option ℕ → List (List ℕ) → Result Entry JournalError
line_at row before fields =
    if nat_lt LINE_LIMIT row then Err (error.Rule row rule.Lines)
    else numbered_line row before fields (number_of (get_or fields 0 []))

infixl 10 ◌>>=◌
abbrev pub ◌>>=◌ : {A B : Type 0} → Result A JournalError → (A → Result B JournalError)
    → Result B JournalError
(Ok x) >>= f = f x
(Err e) >>= f = Err e

-- The lines of these rows, the first of which has this number, or the first broken rule, row by
-- row.
abbrev pub lines_from : ℕ → Option ℕ → List (List (List ℕ)) → Result (List Entry) JournalError
lines_from row before [] = Ok []
lines_from row before (fields ∷ rest) = do
  line ← line_at row before fields
  lines ← lines_from (suc row) (Some line.number) rest
  Ok (line ∷ lines)

-- A text that is no table is refused as such, whatever rule a row of it breaks.
abbrev pub lines_of : Option (List (List (List ℕ))) → Result (List Entry) JournalError
lines_of None = Err error.Table
lines_of (Some rows) = lines_from 1 None rows

-- The journal that a text spells: rows count from 1, without the header.
abbrev pub journal_of : List ℕ → Result (List Entry) JournalError
journal_of bytes = lines_of (rows_under header bytes)

-- An error that says that memory ran out says nothing of the text; any other is the one that the
-- definition gives.
abbrev pub Fails : {Y : Type 0} → JournalError → Result Y JournalError → Type 0
Fails error.Memory read = Unit {0}
Fails error.Table read = read ≡ Err error.Table
Fails (error.Rule row r) read = read ≡ Err (error.Rule row r)

-- What a function returned is what the definition gives, unless memory ran out.
abbrev pub Gives : {X : Type 0} → Result X JournalError → Result X JournalError → Type 0
Gives (Ok x) read = read ≡ Ok x
Gives (Err e) read = Fails e read
