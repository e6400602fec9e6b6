-- The names of the tables: their words, files and headers (the profile of this project).
use Rattle.std.specs.Prelude.{ℕ, List, [], ◌∷◌, codes}
use Rattle.schema.specs.declared.line_table.LineTable.{LineTable}
use Rattle.schema.specs.declared.line_table.LineTable.TheVariants as line
use Rattle.schema.specs.declared.table_name.TableName.{TableName}
use Rattle.schema.specs.declared.table_name.TableName.TheVariants as table

-- the word by which a fault names a table of records
abbrev pub table_word : TableName → List ℕ
table_word table.Patrons = codes "patrons"
table_word table.Items = codes "items"
table_word table.Loans = codes "loans"
table_word table.Fees = codes "fees"
table_word table.Closed = codes "closed"
table_word table.Holds = codes "holds"

-- its file
abbrev pub file_of : TableName → List ℕ
file_of table.Patrons = codes "patrons.csv"
file_of table.Items = codes "items.csv"
file_of table.Loans = codes "loans.csv"
file_of table.Fees = codes "fees.csv"
file_of table.Closed = codes "closed.csv"
file_of table.Holds = codes "holds.csv"

-- the headers: the names of the columns
abbrev pub patrons_header : List (List ℕ)
patrons_header = codes "id" ∷ codes "name" ∷ codes "class" ∷ codes "blocked" ∷ []

abbrev pub items_header : List (List ℕ)
items_header = codes "id" ∷ codes "title" ∷ codes "media" ∷ codes "location" ∷ codes "properties" ∷ []

abbrev pub loans_header : List (List ℕ)
loans_header = codes "patron" ∷ codes "item" ∷ codes "due" ∷ codes "renewals" ∷ []

abbrev pub fees_header : List (List ℕ)
fees_header = codes "id" ∷ codes "patron" ∷ codes "type" ∷ codes "amount" ∷ codes "paid" ∷ []

abbrev pub closed_header : List (List ℕ)
closed_header = codes "id" ∷ codes "patron" ∷ codes "type" ∷ codes "amount" ∷ []

abbrev pub holds_header : List (List ℕ)
holds_header = codes "item" ∷ codes "patron" ∷ codes "pickup" ∷ []

abbrev pub header_of : TableName → List (List ℕ)
header_of table.Patrons = patrons_header
header_of table.Items = items_header
header_of table.Loans = loans_header
header_of table.Fees = fees_header
header_of table.Closed = closed_header
header_of table.Holds = holds_header

-- the same of the tables whose rows are of lines of a journal
abbrev pub line_file : LineTable → List ℕ
line_file line.Journal = codes "journal.csv"
line_file line.Answers = codes "answers.csv"
line_file line.Report = codes "report.csv"
line_file line.Passed = codes "passed.csv"
line_file line.Why = codes "why.csv"
line_file line.WhyAsRecorded = codes "why.csv"
line_file line.Words = codes "words.csv"

abbrev pub journal_header : List (List ℕ)
journal_header = codes "line" ∷ codes "connection" ∷ codes "request" ∷ codes "response" ∷ []

abbrev pub answers_header : List (List ℕ)
answers_header = codes "line" ∷ codes "connection" ∷ codes "response" ∷ []

abbrev pub report_header : List (List ℕ)
report_header = codes "line" ∷ codes "connection" ∷ codes "fields" ∷ []

abbrev pub passed_header : List (List ℕ)
passed_header = codes "line" ∷ codes "connection" ∷ codes "why" ∷ []

abbrev pub why_header : List (List ℕ)
why_header = codes "line" ∷ codes "reason" ∷ codes "kind" ∷ codes "id" ∷ codes "since" ∷ codes "said" ∷ []

abbrev pub why_as_recorded_header : List (List ℕ)
why_as_recorded_header = codes "line" ∷ codes "reason" ∷ codes "kind" ∷ codes "id" ∷ codes "since" ∷ codes "said" ∷ codes "carried" ∷ []

abbrev pub words_header : List (List ℕ)
words_header = codes "line" ∷ codes "word" ∷ codes "told" ∷ codes "right" ∷ []

abbrev pub line_header : LineTable → List (List ℕ)
line_header line.Journal = journal_header
line_header line.Answers = answers_header
line_header line.Report = report_header
line_header line.Passed = passed_header
line_header line.Why = why_header
line_header line.WhyAsRecorded = why_as_recorded_header
line_header line.Words = words_header
