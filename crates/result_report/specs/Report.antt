-- The result tables: what a run says of each line of the journal, rising by line. A line has a row
-- in just one of answers and passed; of the answered lines the report has those that differ.
use Rattle.std.specs.Prelude.{◌≡◌, ℕ, Bool, true, false, List, [], ◌∷◌, codes, decimal, map, option_copied, Option, Some, None}
use Rattle.std.specs.Borrow.{Bor}
use Rattle.std.specs.List.{filter_map, join_by}
use Rattle.std.specs.Option.{is_some, option_map}
use Rattle.journal_table.specs.Entry.{Entry}
use Rattle.sip_answer.specs.Differ.{differ}
use Rattle.sip_answer.specs.Texts.{answer_text}
use Rattle.sip_answer.specs.Words.{word_of}
use Rattle.sip_answer.specs.declared.answer.Answer.{Answer}
use Rattle.sip_answer.specs.declared.field.Field.{Field}
use Rattle.sip_reader.specs.Words.{passed_word, why_word}
use Rattle.sip_reader.specs.declared.request.Reading.{Reading}
use Rattle.sip_reader.specs.declared.request.Reading.TheVariants as readings

-- a row of a table, as its fields
abbrev pub Row : Type 0
Row = List (List ℕ)

-- a line of the journal, what it is read as, and its answer, where it has one
abbrev pub LineResult : Type 0
LineResult = Entry × Reading × Option Answer

-- What is asked is answered, and so is a wrong sum, by the wish to have the message again; what is
-- passed over or can't be read is not.
abbrev pub is_answered : Reading → Bool
is_answered (readings.Asked q) = true
is_answered (readings.Passed p) = false
is_answered readings.BadSum = true
is_answered (readings.Unread w) = false

-- each line has an answer, except exactly if it is passed over or can't be read
abbrev pub AreAnswers : List Reading → List (Option Answer) → Type 0
AreAnswers readings answers = map is_some answers ≡ map is_answered readings

-- the answers that the references of a run refer to
abbrev pub answers_behind : List (Option (Bor Answer)) → List (Option Answer)
answers_behind answers = map option_copied answers

abbrev pub line_results : List Entry → List Reading → List (Option Answer) → List LineResult
line_results [] readings answers = []
line_results (line ∷ lines) [] answers = []
line_results (line ∷ lines) (r ∷ readings) [] = []
line_results (line ∷ lines) (r ∷ readings) (a ∷ answers) =
    (line, r, a) ∷ line_results lines readings answers

-- Error detection (SIP 2.00): a response repeats the sequence digit of its request
abbrev pub sequence_of : Reading → Option ℕ
sequence_of (readings.Asked q) = q.sequence
sequence_of (readings.Passed p) = None
sequence_of readings.BadSum = None
sequence_of (readings.Unread w) = None

-- Why a line has no answer: it is passed over by its kind or for its title, or it can't be read.
abbrev pub reason_of : Reading → Option (List ℕ)
reason_of (readings.Asked q) = None
reason_of (readings.Passed p) = Some (passed_word p)
reason_of readings.BadSum = None
reason_of (readings.Unread w) = Some (why_word w)

-- the number and the connection of a line, and words about it
abbrev pub row_of : Entry → List ℕ → Row
row_of line text = decimal line.number ∷ line.connection ∷ text ∷ []

-- an answered line, with the text of its answer
abbrev pub answer_row : LineResult → Option Row
answer_row (line, r, None) = None
answer_row (line, r, Some a) = Some (row_of line (answer_text a (sequence_of r)))

-- the words of what differs, joined by one blank
abbrev pub joined_words : List Field → List ℕ
joined_words fields = join_by word_of (codes " ") fields

-- a line in which this differs
abbrev pub difference_row : Entry → List Field → Option Row
difference_row line [] = None
difference_row line (field ∷ more) = Some (row_of line (joined_words (field ∷ more)))

-- an answered line whose recorded response doesn't agree with its answer, with the words of what
-- differs
abbrev pub report_row : LineResult → Option Row
report_row (line, r, None) = None
report_row (line, r, Some a) = difference_row line (differ a line.response)

-- a line without an answer, with the reason
abbrev pub passed_row : LineResult → Option Row
passed_row (line, r, None) = option_map (row_of line) (reason_of r)
passed_row (line, r, Some a) = None

-- the rows of the three tables
abbrev pub answers_rows : List LineResult → List Row
answers_rows lines = filter_map answer_row lines

abbrev pub report_rows : List LineResult → List Row
report_rows lines = filter_map report_row lines

abbrev pub passed_rows : List LineResult → List Row
passed_rows lines = filter_map passed_row lines
