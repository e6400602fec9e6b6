-- Results of lines in parts, one stretch after the other.
use Rattle.std.specs.Prelude.{◌≡◌, ◌+◌, ◌-◌, ◌*◌, ℕ, List, Some, drop, slice_get, take}
use Rattle.journal_table.specs.declared.readings.TheConstants.{STRETCH}
use Rattle.result_report.specs.Report.{LineResult}
use Rattle.result_report.specs.Tables.{AreTexts}
use Rattle.result_report.specs.declared.texts.ResultTexts.{ResultTexts}

-- from one position on up to another
abbrev pub between : {X : Type 0} → ℕ → ℕ → List X → List X
between from to lines = take (to - from) (drop from lines)

-- the k-th stretch, from 0
abbrev pub stretch : {X : Type 0} → ℕ → List X → List X
stretch k lines = take STRETCH (drop (k * STRETCH) lines)

-- the result tables of stretches of these lines, after the given number of stretches
abbrev pub AreParts : ℕ → List LineResult → List ResultTexts → Type 0
AreParts told lines parts =
    (k : ℕ) (t : ResultTexts) → slice_get parts k ≡ Some t → AreTexts (stretch (told + k) lines) t
