-- The output of a run by workers in threads (the headline over threads): that of one thread, by
-- whatever attempts.
use Rattle.std.specs.Prelude.{◌≡◌, ℕ, ◌⊎◌, List, Result, Ok, Err}
use Rattle.replay_run.specs.BySteps.{AreWorkers}
use Rattle.replay_run.specs.Judgements.{Accepted, Refused, Fails}
use Rattle.replay_run.specs.OneThread.{IsOutputBy, judgement}
use Rattle.replay_run.specs.declared.fault.Fault.{Fault}
use Rattle.replay_run.specs.declared.fault.Fault.TheVariants as faults
use Rattle.replay_run.specs.declared.inputs.Inputs.{Inputs}
use Rattle.replay_run.specs.declared.inputs.Output.{Output}

-- The output is that of one thread, except for the attempts.
abbrev pub IsOutputOver : Accepted → Output → Type 0
IsOutputOver j o = (tried : List ℕ) × IsOutputBy j.plan j.lines tried o

-- Workers that have begun fail only if the attempts, the clock or the memory are spent.
abbrev pub MayFail : Fault → Type 0
MayFail (faults.Attempts line) = Unit {0}
MayFail faults.ClockSpent = Unit {0}
MayFail faults.Memory = Unit {0}
MayFail _ = ⊥

-- what workers return for a plan
abbrev pub IsMade : Accepted → Result Output Fault → Type 0
IsMade j (Ok o) = IsOutputOver j o
IsMade j (Err fault) = MayFail fault

-- before they begin the inputs are judged
abbrev pub IsMadeOf : Result Accepted Refused → Result Output Fault → Type 0
IsMadeOf (Ok j) run = IsMade j run
IsMadeOf (Err refused) (Ok o) = ⊥
IsMadeOf (Err refused) (Err fault) = Fails fault (Err refused)

-- The number of workers is judged first of all.
abbrev pub IsByWorkers : Inputs → ℕ → Result Output Fault → Type 0
IsByWorkers i workers run =
    (AreWorkers workers × IsMadeOf (judgement i) run)
    ⊎ ((AreWorkers workers → ⊥) × (run ≡ Err faults.BadWorkers))
