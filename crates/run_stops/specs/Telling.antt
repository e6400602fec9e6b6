-- What the program prints of what stopped it, as its page on formats gives it: a line, and where
-- that is asked for a second one that says what to do.
use Rattle.std.specs.Prelude.{◌==◌, ◌++◌, ℕ, List, [], Option, None, Some, codes, decimal, string_bytes, if◌then◌else◌}
use Rattle.std.specs.Cmp.Lexicographic.{pointwise}
use Rattle.schema.specs.Names.{file_of}
use Rattle.circ_records.specs.declared.rule.BaseRule.{BaseRule}
use Rattle.circ_records.specs.declared.rule.BaseRule.TheVariants as base
use Rattle.journal_table.specs.declared.error.JournalRule.{JournalRule}
use Rattle.journal_table.specs.declared.error.JournalRule.TheVariants as journal
use Rattle.command_line.specs.declared.chosen.Options.{Options}
use Rattle.replay_run.specs.Faults.{fault_number, fault_text}
use Rattle.replay_run.specs.declared.fault.Fault.{Fault}
use Rattle.replay_run.specs.declared.fault.Fault.TheVariants as faults
use Rattle.outside.specs.Reasons.{reason_of}
use Rattle.run_stops.specs.declared.values.ValueForm.{ValueForm}
use Rattle.run_stops.specs.declared.values.ValueForm.TheVariants as form
use Rattle.run_stops.specs.declared.seen.FaultDetail.{FaultDetail}
use Rattle.run_stops.specs.declared.seen.FaultDetail.TheVariants as seen
use Rattle.run_stops.specs.declared.stop.InputName.{InputName}
use Rattle.run_stops.specs.declared.stop.InputName.TheVariants as inputs
use Rattle.run_stops.specs.declared.stop.RunError.{RunError}
use Rattle.run_stops.specs.declared.stop.RunError.TheVariants as stops

-- which files of the output would replace which input
abbrev pub loss_of : InputName → List ℕ
loss_of inputs.Policy = codes "files would replace that of --policy"
loss_of inputs.Base = codes "tables would replace those of --base"
loss_of inputs.Journal = codes "files would replace that of --journal"

-- the line of a stop, where an output is an input in the form of clap's own refusals; none where
-- standard output fails
abbrev pub line_of : RunError → List ℕ
line_of (stops.Fault fault) = codes "fault " ++ decimal (fault_number fault) ++ codes ": " ++ fault_text fault ++ codes "\n"
line_of (stops.Seen fault what) = codes "fault " ++ decimal (fault_number fault) ++ codes ": " ++ fault_text fault ++ codes "\n"
line_of (stops.Replaces out input) = codes "error: invalid value '" ++ (string_bytes out ++ (codes "' for '--out <DIR>': its " ++ (loss_of input
    ++ codes "\n\nFor more information, try '--help'.\n")))
line_of (stops.File path failure) = codes "file: " ++ string_bytes path ++ codes "\n"
line_of (stops.NoFolder path folder) = codes "file: " ++ string_bytes path ++ codes "\n"
line_of stops.Output = []

-- what to do about a row of a table, by the rule that it breaks
abbrev pub row_remedy : BaseRule → List ℕ
row_remedy base.Text = codes "an id is empty or longer than 64 bytes, another text is longer than 1,024, or one holds a | or a line end. Clean it where you export it."
row_remedy base.Value = codes "a value has another form. Write blocked as Y or N, a due day as 20260316, renewals as a whole number, a type as 01 to 09, an amount as 1.50."
row_remedy base.Double = codes "its id came before (fees.csv and closed.csv share their ids; in holds.csv it is the item with the patron). Keep one of the two rows."
row_remedy base.Class = codes "the policy has no such class. Add [class.NAME] to the policy, or give the patron a class that is there."
row_remedy base.Media = codes "the policy has no such media type. Add [media.NNN] to the policy, or give the item a type that is there."
row_remedy base.Patron = codes "patrons.csv has no such patron. Export the patron too, or leave this row out."
row_remedy base.Item = codes "items.csv has no such item. Export the item too, or leave this row out."
row_remedy base.Lent = codes "an earlier row lends the same item. Find out who has it, and keep that row alone."
row_remedy base.Paid = codes "the fee is paid in full. Move it to closed.csv, without the last column."
row_remedy base.Number = codes "a line of this journal can make a fee with this id. Take tables from before the first line, or let the line numbers go on from the last journal."
row_remedy base.Borrower = codes "the patron has the item on loan. Leave this hold out."
row_remedy base.Queue = codes "9,999 patrons wait for the item already, and no queue is longer. Leave this row out."

-- what to do about a row of the journal, by the rule that it breaks
abbrev pub line_remedy : JournalRule → List ℕ
line_remedy journal.Lines = codes "a run takes 1,000,000 lines at most. Cut the journal, and give each part the tables that the part before it wrote."
line_remedy journal.Number = codes "the line's number must be 1 to 9999999999, in digits without leading zeros."
line_remedy journal.Sequence = codes "each number must be the one before plus one. Look for a line that is missing or stands twice."
line_remedy journal.Connection = codes "the name of the connection is longer than 64 bytes. Give it a shorter one."

-- what to do about a policy, by the key whose rule it breaks
unfoldable pub key_remedy : List ℕ → List ℕ
key_remedy key =
    if pointwise ◌==◌ key (codes "institution") then codes "give the institution's id in double quotes, 1 to 64 bytes."
    else (if pointwise ◌==◌ key (codes "currency") then codes "give three capital letters in double quotes, as USD."
    else (if pointwise ◌==◌ key (codes "due_form") then codes "give sip, iso or us, in double quotes."
    else (if pointwise ◌==◌ key (codes "closed_weekdays") then codes "give a list in [ ] of English weekdays, each in small letters and double quotes, and not all seven."
    else (if pointwise ◌==◌ key (codes "closed_dates") then codes "give a list in [ ] of at most 400 days, each in double quotes, as 2026-12-25, and in the calendar."
    else codes "it is missing, it is no key of a policy, or its value is of another kind or too large. FORMATS.md, section 4, lists all keys and values."))))

-- what a fault is about: the file, and the row or the line where it has one; of a policy the key;
-- of a wrong number of workers the option
abbrev pub place_of : Options → Fault → List ℕ
place_of o faults.BadWorkers = codes "--workers"
place_of o faults.PolicyText = string_bytes o.policy
place_of o (faults.PolicyRule key) = string_bytes o.policy ++ (codes ": " ++ string_bytes key)
place_of o (faults.BaseTable table) = string_bytes o.base ++ (codes "/" ++ file_of table)
place_of o (faults.BaseRule table row rule values) = string_bytes o.base ++ (codes "/" ++ (file_of table ++ (codes ", row " ++ (decimal row ++ codes " below the header"))))
place_of o faults.JournalTable = string_bytes o.journal
place_of o (faults.JournalRule row rule) = string_bytes o.journal ++ (codes ", row " ++ (decimal row ++ codes " below the header"))
place_of o (faults.Attempts line) = string_bytes o.journal ++ (codes ", line " ++ decimal line)
place_of o faults.ClockSpent = string_bytes o.journal
place_of o faults.Memory = string_bytes o.journal

-- what to do about a fault
abbrev pub words_of : Fault → List ℕ
words_of faults.BadWorkers = codes "give a number from 1 to 64, or leave it out; what comes out is the same with any number."
words_of faults.PolicyText = codes "this is no TOML. Each line is a key, = and a value; texts stand in double quotes. FORMATS.md, section 4, has an example."
words_of (faults.PolicyRule key) = key_remedy (string_bytes key)
words_of (faults.BaseTable table) = codes "the first row must be the header that FORMATS.md, section 5, gives, and each row must have as many fields. Quote a field that holds a comma."
words_of (faults.BaseRule table row rule values) = row_remedy rule
words_of faults.JournalTable = codes "the first row must be line,connection,request,response, and each row must have four fields. Quote a field that holds a comma."
words_of (faults.JournalRule row rule) = line_remedy rule
words_of (faults.Attempts line) = codes "this line was tried too often. Run again with --workers 1."
words_of faults.ClockSpent = codes "its lines were tried too often. Run again with --workers 1."
words_of faults.Memory = codes "there is too little memory. Cut the journal, and give each part the tables that the part before it wrote."

-- the form that a value should have
abbrev pub form_words : ValueForm → List ℕ
form_words form.Flag = codes "blocked is Y or N"
form_words form.Day = codes "a due day is eight digits of a day of the calendar, as 20260316"
form_words form.Number = codes "renewals are a whole number, in digits without leading zeros"
form_words form.FeeType = codes "a fee type is 01 to 09"
form_words form.Amount = codes "an amount is up to nine digits, with up to two after a point, as 1.50"

-- the same in a line, and with what was seen in the text
abbrev pub fault_remedy : Options → Fault → List ℕ
fault_remedy o fault = place_of o fault ++ (codes ": " ++ (words_of fault ++ codes "\n"))

abbrev pub seen_remedy : Options → Fault → FaultDetail → List ℕ
seen_remedy o fault (seen.Uneven row) = codes "Row " ++ (decimal row ++ (codes " below the first one has another number of fields. " ++ fault_remedy o fault))
seen_remedy o fault (seen.Header found wanted) = place_of o fault ++ (codes ": the header is " ++ (string_bytes found ++ (codes ", and must be " ++ (string_bytes wanted ++ codes ".\n"))))
seen_remedy o fault (seen.Key line text) = place_of o fault ++ (codes ", line " ++ (decimal line ++ (codes ": " ++ (string_bytes text ++ codes "\n"))))
seen_remedy o fault (seen.Line line) = place_of o fault ++ (codes ", line " ++ (decimal line ++ (codes ": " ++ (words_of fault ++ codes "\n"))))
seen_remedy o fault (seen.Form text form) = place_of o fault ++ (codes ": " ++ (string_bytes text ++ (codes ": " ++ (form_words form ++ codes ".\n"))))
seen_remedy o fault (seen.Values text) = place_of o fault ++ (codes ": " ++ (string_bytes text ++ (codes ": " ++ (words_of fault ++ codes "\n"))))
seen_remedy o fault seen.Packed = place_of o fault ++ codes ": this is compressed. Unpack it with gunzip, and name what comes out.\n"
seen_remedy o fault seen.Wide = place_of o fault ++ codes ": this is UTF-16. Save it as UTF-8.\n"

-- what to do about a stop, in words
abbrev pub remedy_of : Options → RunError → List ℕ
remedy_of o (stops.Fault fault) = fault_remedy o fault
remedy_of o (stops.Seen fault what) = seen_remedy o fault what
remedy_of o (stops.Replaces out input) = []
remedy_of o (stops.File path failure) = string_bytes path ++ (codes ": " ++ (reason_of failure
    ++ codes ". See that it is there, that you may read or write it, and that the disk has room.\n"))
remedy_of o (stops.NoFolder path folder) = codes "no folder '" ++ (string_bytes folder ++ codes "'. Make it, or name the one that is meant.\n")
remedy_of o stops.Output = []

-- what is printed: the line, and after it what to do if that is asked for
abbrev pub stop_text : RunError → Option Options → List ℕ
stop_text stop None = line_of stop
stop_text stop (Some options) = line_of stop ++ remedy_of options stop
