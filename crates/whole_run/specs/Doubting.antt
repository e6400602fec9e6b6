-- Results that can't be meant, and what is printed for them.
use Rattle.std.specs.Prelude.{◌≡◌, ◌++◌, ◌∷◌, ◌&&◌, ℕ, [], Bool, List, None, Option, Some, codes, decimal, false, if◌then◌else◌, is_none, nat_lt, string_bytes, true}
use Rattle.std.specs.List.{flat_map}
use Rattle.outside.specs.Events.{Event, Tell}
use Rattle.command_line.specs.declared.chosen.Options.{Options}
use Rattle.result_report.specs.declared.texts.Sizes.{Sizes}
use Rattle.whole_run.specs.declared.doubt.Doubts.{Doubts}
use Rattle.whole_run.specs.declared.doubt.LinesDoubt.{LinesDoubt}
use Rattle.whole_run.specs.declared.doubt.LinesDoubt.TheVariants as lines
use Rattle.whole_run.specs.declared.doubt.SizesDoubt.{SizesDoubt}
use Rattle.whole_run.specs.declared.doubt.SizesDoubt.TheVariants as sizes

-- the line of what the numbers of a result say, if they say something
abbrev pub sizes_text : Option SizesDoubt → List ℕ
sizes_text None = []
sizes_text (Some sizes.NoLine) = codes "the journal has no line: is it the right file?\n"
sizes_text (Some (sizes.NoAnswer lines)) = codes "none of " ++ (decimal lines
    ++ codes " lines has an answer: passed.csv gives the reason for each.\n")

-- the line of what the lines of the journal, or of the report, say
abbrev pub line_text : LinesDoubt → List ℕ
line_text (lines.Institution id) = codes "no request has the institution of the policy, " ++ (string_bytes id
    ++ codes " (AO): is it the policy of this library?\n")
line_text (lines.Patrons unknown named) = decimal unknown ++ (codes " of " ++ (decimal named
    ++ codes " requests that name a patron name one that patrons.csv lacks: are the ids in another form?\n"))
line_text (lines.Items unknown named) = decimal unknown ++ (codes " of " ++ (decimal named
    ++ codes " requests that name an item name one that items.csv lacks: are the ids in another form?\n"))
line_text (lines.Differing differing answered) = decimal differing ++ (codes " of " ++ (decimal answered
    ++ codes " answers differ in ok or due: --as-recorded restores what happened at the machines.\n"))
line_text (lines.Undated undated lent) = decimal undated ++ (codes " of " ++ (decimal lent
    ++ codes " responses that lend name no due day that can be read: is due_form that of the server?\n"))
line_text (lines.Resent resent all) = decimal resent ++ (codes " of " ++ (decimal all
    ++ codes " lines have a wrong checksum or were answered by 96: was the journal edited?\n"))
line_text (lines.Alerts alerts) = decimal alerts
    ++ codes " alerts differ in a checkin whose response names no hold (CV): are they of transfers?\n"

abbrev pub lines_text : List LinesDoubt → List ℕ
lines_text doubts = flat_map line_text doubts

-- all doubts, a line each: what its numbers say of a result comes first
abbrev pub doubts_text : Doubts → List ℕ
doubts_text doubts = sizes_text doubts.of_sizes ++ lines_text doubts.of_lines.items

-- what its numbers alone say of a result: the journal has no line, or no line has an answer
abbrev pub doubt_of_sizes : Sizes → Option SizesDoubt
doubt_of_sizes s = if nat_lt 0 s.answered then None
    else (if nat_lt 0 s.passed then Some (sizes.NoAnswer s.passed) else Some sizes.NoLine)

-- The doubts that are printed: there are some to be printed if the arguments ask for it, and what
-- the numbers say is among them exactly if they say it. What the lines say is up to the program.
abbrev pub AreToldDoubts : Options → Sizes → Option Doubts → Type 0
AreToldDoubts o s None = o.explain ≡ false
AreToldDoubts o s (Some doubts) = doubts.of_sizes ≡ doubt_of_sizes s

abbrev pub is_empty : List LinesDoubt → Bool
is_empty [] = true
is_empty (doubt ∷ others) = false

abbrev pub are_none : Doubts → Bool
are_none doubts = is_none doubts.of_sizes && is_empty doubts.of_lines.items

-- doubts as they are printed: nothing if there is none
abbrev pub some_events : Doubts → Bool → List Event
some_events doubts taken = if are_none doubts then [] else (Tell (doubts_text doubts) taken ∷ [])

abbrev pub doubts_events : Option Doubts → Bool → List Event
doubts_events None taken = []
doubts_events (Some doubts) taken = some_events doubts taken

-- the doubts of a result are printed
abbrev pub TellsDoubts : Options → Sizes → List Event → Type 0
TellsDoubts o s events = (doubts : Option Doubts) × (taken : Bool) × AreToldDoubts o s doubts
    × (events ≡ doubts_events doubts taken)
