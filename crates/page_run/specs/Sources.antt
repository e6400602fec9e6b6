-- The files that a page is made from, and the bytes of each.
use Rattle.std.specs.Prelude.{◌++◌, ◌∷◌, ℕ, [], List, None, Option, Some, codes, string_bytes}
use Rattle.std.specs.declared.alloc.Global.{Global}
use Rattle.std.specs.declared.string.String.{String}
use Rattle.std.specs.declared.vec.Vec.{Vec}
use Rattle.command_line.specs.declared.chosen.PageOptions.{PageOptions}
use Rattle.outside.specs.Files.{in_folder}
use Rattle.outside.specs.declared.reading.IfMissing.{IfMissing}
use Rattle.outside.specs.declared.reading.IfMissing.TheVariants.{Empty, Fails}
use Rattle.page_run.specs.declared.texts.BaseTexts.{BaseTexts}
use Rattle.page_run.specs.declared.texts.BothTexts.{BothTexts}
use Rattle.page_run.specs.declared.texts.NameTexts.{NameTexts}
use Rattle.page_run.specs.declared.texts.PageTexts.{PageTexts}
use Rattle.page_run.specs.declared.texts.FateTexts.{FateTexts}

-- the tables of a folder that name items and patrons
abbrev pub names_in : List ℕ → List (List ℕ × IfMissing)
names_in folder = (in_folder folder (codes "items.csv"), Fails) ∷ (in_folder folder (codes "patrons.csv"), Fails) ∷ []

abbrev pub name_texts : NameTexts → List (List ℕ)
name_texts t = t.items.items ∷ t.patrons.items ∷ []

-- the journal, and the tables of what became of each line
abbrev pub result_files : PageOptions → List (List ℕ × IfMissing)
result_files o =
    (string_bytes o.journal, Fails)
    ∷ (in_folder (string_bytes o.out) (codes "answers.csv"), Fails)
    ∷ (in_folder (string_bytes o.out) (codes "passed.csv"), Fails)
    ∷ (in_folder (string_bytes o.out) (codes "report.csv"), Fails) ∷ []

abbrev pub result_texts : FateTexts → List (List ℕ)
result_texts t = t.journal.items ∷ t.answers.items ∷ t.passed.items ∷ t.report.items ∷ []

-- the table of reasons, where there is one
abbrev pub file_of_why : Option (String Global) → List (List ℕ × IfMissing)
file_of_why None = []
file_of_why (Some path) = (string_bytes path, Fails) ∷ []

abbrev pub text_of_why : Option (Vec ℕ Global) → List (List ℕ)
text_of_why None = []
text_of_why (Some text) = text.items ∷ []

-- a table of the base, then that of the output
abbrev pub both_in : List ℕ → List ℕ → List ℕ → IfMissing → List (List ℕ × IfMissing)
both_in base out name missing = (in_folder base name, missing) ∷ (in_folder out name, missing) ∷ []

abbrev pub both_texts : BothTexts → List (List ℕ)
both_texts t = t.before.items ∷ t.after.items ∷ []

-- the tables before a run and after it; a missing holds.csv counts as empty
abbrev pub changed_files : List ℕ → List ℕ → List (List ℕ × IfMissing)
changed_files base out = names_in base ++ (both_in base out (codes "loans.csv") Fails ++ (both_in base out (codes "holds.csv") Empty
    ++ both_in base out (codes "fees.csv") Fails))

abbrev pub changed_texts : BaseTexts → List (List ℕ)
changed_texts t =
    name_texts t.names ++ (both_texts t.loans ++ (both_texts t.holds ++ both_texts t.fees))

-- the same, where there is a base
abbrev pub base_files : Option (String Global) → List ℕ → List (List ℕ × IfMissing)
base_files None out = []
base_files (Some base) out = changed_files (string_bytes base) out

abbrev pub base_texts : Option BaseTexts → List (List ℕ)
base_texts None = []
base_texts (Some texts) = changed_texts texts

-- all files that the words name, in the order in which they are read, and of each what it is taken
-- for where it is missing
abbrev pub files_of : PageOptions → List (List ℕ × IfMissing)
files_of o =
    names_in (string_bytes o.out)
    ++ (result_files o ++ (file_of_why o.why ++ base_files o.base (string_bytes o.out)))

-- the bytes of each, in the same order
abbrev pub texts_of : PageTexts → List (List ℕ)
texts_of t =
    name_texts t.names ++ (result_texts t.result ++ (text_of_why t.why ++ base_texts t.base))
