-- The attempts of an output: one for each line of the journal.
use Rattle.std.specs.Prelude.{◌≡◌, ℕ, List, length, Result, Ok, Err}
use Rattle.replay_run.specs.Judgements.{Accepted, Refused}
use Rattle.replay_run.specs.declared.by_steps.Run.{Run}
use Rattle.replay_run.specs.declared.by_steps.Run.TheVariants as runs
use Rattle.replay_run.specs.declared.inputs.Output.{Output}

-- of inputs that no rule refuses: a number for each line
abbrev pub AreOnePerLine : Result Accepted Refused → List ℕ → Type 0
AreOnePerLine (Ok j) numbers = length numbers ≡ length j.lines
AreOnePerLine (Err refused) numbers = ⊥

-- a fact of the output of steps that commit every line
abbrev pub IfOutput : Run → (Output → Type 0) → Type 0
IfOutput (runs.Output o) fact = fact o
IfOutput (runs.Unfinished committed) fact = Unit {0}
