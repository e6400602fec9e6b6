-- What a terminal shows of a run. Each text begins by going back to the line's first place, and
-- none is longer than the last one, which leaves the line empty.
use Rattle.std.specs.Prelude.{◌++◌, ℕ, List, codes, decimal}
use Rattle.whole_run.specs.declared.progress.Phase.{Phase}
use Rattle.whole_run.specs.declared.progress.Phase.TheVariants as phase

abbrev pub phase_text : Phase → List ℕ
phase_text phase.Reading = codes "\rreading"
phase_text (phase.Running committed lines) = codes "\r" ++ decimal committed ++ codes " of " ++ decimal lines ++ codes " lines"
phase_text phase.Writing = codes "\rwriting                 "
phase_text phase.Over = codes "\r                        \r"
