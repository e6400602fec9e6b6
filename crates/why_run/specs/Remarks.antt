-- What is said of lines that are wanted, and the status that it gives.
use Rattle.std.specs.Prelude.{◌++◌, ◌∷◌, ℕ, [], List, codes, decimal, string_bytes}
use Rattle.why_run.specs.declared.remark.Remark.{Remark}
use Rattle.why_run.specs.declared.remark.Remark.TheVariants as remarks

abbrev pub remark_text : Remark → List ℕ
remark_text (remarks.NoLine n) = codes "error: the journal has no line " ++ (decimal n ++ codes "\n")
remark_text (remarks.NoAnswer n reason) = codes "error: line " ++ (decimal n ++ (codes " has no answer: passed over: " ++ (string_bytes reason ++ codes "\n")))
remark_text (remarks.NoCase n) = codes "error: line " ++ (decimal n ++ codes " gives no case: alone it is answered otherwise\n")

-- 2 where something is said of a line, else 0
abbrev pub status_after : List Remark → ℕ
status_after [] = 0
status_after (remark ∷ remarks) = 2
