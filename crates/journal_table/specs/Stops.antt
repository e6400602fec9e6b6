-- What the error of reading lines says, when some rows aren't read yet.
use Rattle.std.specs.Prelude.{◌≡◌, ℕ, List, Option, Some, None, Result, Err}
use Rattle.journal_table.specs.Entry.{Entry}
use Rattle.journal_table.specs.Journal.{lines_of}
use Rattle.journal_table.specs.declared.error.JournalError.{JournalError}
use Rattle.journal_table.specs.declared.error.JournalError.TheVariants as error

-- a broken rule is the journal's error only if the rows after it are a table
abbrev pub unless_no_table : JournalError → Option (List (List (List ℕ)))
    → Result (List Entry) JournalError
unless_no_table fault None = Err error.Table
unless_no_table fault (Some rest) = Err fault

-- what an error says of all rows and of those that weren't read yet
abbrev pub Stops : JournalError → Option (List (List (List ℕ))) → Option (List (List (List ℕ)))
    → Type 0
Stops error.Memory rows rest = Unit {0}
Stops error.Table rows rest = lines_of rows ≡ Err error.Table
Stops (error.Rule row r) rows rest = lines_of rows ≡ unless_no_table (error.Rule row r) rest
