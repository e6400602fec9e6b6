-- When a journal and the tables of an output are of one run.
use Rattle.std.specs.Prelude.{◌≡◌, ◌∷◌, ◌&&◌, ◌==◌, ℕ, Bool, true, false, List, [], Option, Some, None, get_or, length, if◌then◌else◌}
use Rattle.std.specs.Cmp.Lexicographic.{pointwise}
use Rattle.one_run.specs.declared.fate.Fate.{Fate}
use Rattle.one_run.specs.declared.fate.Fate.TheVariants.{Passed, Right, Wrong}

-- a row of a table, field by field: in all of them the line and the connection come first
abbrev pub Row : Type 0
Row = List (List ℕ)

-- whether a row is of a line of the journal: it names its number and its connection
abbrev pub is_of : Row → Row → Bool
is_of row line = pointwise ◌==◌ (get_or row 0 []) (get_or line 0 []) && pointwise ◌==◌ (get_or row 1 []) (get_or line 1 [])

abbrev pub is_answered : Fate → Bool
is_answered Passed = false
is_answered Right = true
is_answered Wrong = true

abbrev pub is_passed : Fate → Bool
is_passed Passed = true
is_passed Right = false
is_passed Wrong = false

abbrev pub is_wrong : Fate → Bool
is_wrong Passed = false
is_wrong Right = false
is_wrong Wrong = true

-- the lines with such a fate
abbrev pub lines_that : (Fate → Bool) → List Fate → List Row → List Row
lines_that is [] lines = []
lines_that is (fate ∷ fates) [] = []
lines_that is (fate ∷ fates) (line ∷ lines) = if is fate then line ∷ lines_that is fates lines else lines_that is fates lines

-- whether the rows of a table are of these lines, in their order, each of one
abbrev pub are_of : Option (List Row) → List Row → Bool
are_of None lines = false
are_of (Some rows) lines = pointwise is_of rows lines

-- whether a journal and the tables of an output are of one run, in which its lines have these fates: the answers are just those of the
-- lines that aren't passed over, passed.csv has just the others, and the report just the wrong ones
abbrev pub is_one_run : List Fate → Option (List Row) → Option (List Row) → Option (List Row) → Option (List Row) → Bool
is_one_run fates None answers passed report = false
is_one_run fates (Some lines) answers passed report =
    (length fates == length lines)
    && (are_of answers (lines_that is_answered fates lines)
    && (are_of passed (lines_that is_passed fates lines) && are_of report (lines_that is_wrong fates lines)))

-- that a table gave a row of a line, or none: the rest of the table has rows of later lines
abbrev pub Taken : Bool → Row → Option (List Row) → Option (List Row) → Type 0
Taken b line before after = (lines : List Row) → are_of before (if b then line ∷ lines else lines) ≡ are_of after lines
