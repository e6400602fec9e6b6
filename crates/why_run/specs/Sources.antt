-- The files that a run reads, and the bytes of each.
use Rattle.std.specs.Prelude.{◌++◌, ◌∷◌, ℕ, [], List, None, Option, Some, codes, string_bytes}
use Rattle.std.specs.declared.alloc.Global.{Global}
use Rattle.std.specs.declared.string.String.{String}
use Rattle.std.specs.declared.vec.Vec.{Vec}
use Rattle.command_line.specs.declared.why.WhyOptions.{WhyOptions}
use Rattle.outside.specs.Files.{in_folder}
use Rattle.outside.specs.declared.reading.IfMissing.{IfMissing}
use Rattle.outside.specs.declared.reading.IfMissing.TheVariants.{Empty, Fails}
use Rattle.schema.specs.declared.tables.Tables.{Tables}
use Rattle.why_run.specs.declared.texts.WhyTexts.{WhyTexts}

-- the six tables of a folder; a missing holds.csv counts as empty
abbrev pub tables_in : List ℕ → List (List ℕ × IfMissing)
tables_in folder =
    (in_folder folder (codes "patrons.csv"), Fails)
    ∷ (in_folder folder (codes "items.csv"), Fails)
    ∷ (in_folder folder (codes "loans.csv"), Fails)
    ∷ (in_folder folder (codes "fees.csv"), Fails)
    ∷ (in_folder folder (codes "closed.csv"), Fails)
    ∷ (in_folder folder (codes "holds.csv"), Empty) ∷ []

abbrev pub table_texts : Tables → List (List ℕ)
table_texts t = t.patrons.items ∷ t.items.items ∷ t.loans.items ∷ t.fees.items ∷ t.closed.items ∷ t.holds.items ∷ []

-- a file or a folder that words may leave out
abbrev pub file_if_named : Option (String Global) → List (List ℕ × IfMissing)
file_if_named None = []
file_if_named (Some path) = (string_bytes path, Fails) ∷ []

abbrev pub text_if_named : Option (Vec ℕ Global) → List (List ℕ)
text_if_named None = []
text_if_named (Some text) = text.items ∷ []

abbrev pub tables_if_named : Option (String Global) → List (List ℕ × IfMissing)
tables_if_named None = []
tables_if_named (Some folder) = tables_in (string_bytes folder)

abbrev pub texts_if_named : Option Tables → List (List ℕ)
texts_if_named None = []
texts_if_named (Some tables) = table_texts tables

-- all files that the words name, in the order in which they are read, and of each what it is taken for where it is missing; --out is given
-- just where --changes is
abbrev pub files_of : WhyOptions → List (List ℕ × IfMissing)
files_of o = (string_bytes o.policy, Fails) ∷ (tables_in (string_bytes o.base)
    ++ ((string_bytes o.journal, Fails) ∷ (file_if_named o.report ++ tables_if_named o.out)))

-- the bytes of each, in the same order
abbrev pub texts_of : WhyTexts → List (List ℕ)
texts_of t = t.policy.items ∷ (table_texts t.base ++ (t.journal.items ∷ (text_if_named t.report ++ texts_if_named t.out)))
