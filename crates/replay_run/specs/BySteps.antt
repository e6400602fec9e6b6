-- The run of a list of workers' steps (the headline over lists of steps): where the steps commit
-- every line, the output of one thread. Steps lead from the first board to one board (law
-- plays_lead_to_one_board of speculate), and that board is meant.
use Rattle.std.specs.Prelude.{◌≡◌, ℕ, ◌<◌, ◌≤◌, ◌⊎◌, List, length, map, Result, Ok, Err}
use Rattle.board_steps.specs.Board.{Board}
use Rattle.board_steps.specs.Steps.{opening}
use Rattle.board_steps.specs.declared.TheConstants.{WORKERS_MAX}
use Rattle.read_set.specs.Plans.{Planned}
use Rattle.speculate.specs.BoardEnds.{attempt_on}
use Rattle.result_report.specs.Ends.{numbers_of}
use Rattle.speculate.specs.Finishing.{IsWhole}
use Rattle.speculate.specs.Playing.{Halts, Plays}
use Rattle.speculate.specs.declared.steps.BoardFault.{BoardFault}
use Rattle.speculate.specs.declared.steps.BoardFault.TheVariants as refusals
use Rattle.speculate.specs.declared.steps.Halt.{Halt}
use Rattle.speculate.specs.declared.steps.Step.{Step}
use Rattle.replay_run.specs.Judgements.{Accepted, Refused, Fails}
use Rattle.replay_run.specs.OneThread.{IsOutputBy, judgement}
use Rattle.replay_run.specs.declared.by_steps.Run.{Run}
use Rattle.replay_run.specs.declared.by_steps.Run.TheVariants as runs
use Rattle.replay_run.specs.declared.fault.Fault.{Fault}
use Rattle.replay_run.specs.declared.fault.Fault.TheVariants as faults
use Rattle.replay_run.specs.declared.inputs.Inputs.{Inputs}
use Rattle.replay_run.specs.declared.inputs.Output.{Output}

-- at least one worker, and no more than a run may have
abbrev pub AreWorkers : ℕ → Type 0
AreWorkers workers = (1 ≤ workers) × (workers ≤ WORKERS_MAX)

-- the board before the first step: all lines wait for their first attempt
abbrev pub first_board : Planned → ℕ → Board
first_board plan workers = opening plan workers 0 0

-- of each line of the journal the attempt that counts on a board
abbrev pub attempts_on : Planned → Board → List ℕ
attempts_on plan board = map (attempt_on board) (numbers_of plan)

-- The steps commit every line: the output is that of one thread, but that the attempts are those of
-- the board that the steps lead to.
abbrev pub CommitAll : Accepted → ℕ → List Step → Output → Type 0
CommitAll j workers steps o =
    (after : Board) × Plays j.plan (first_board j.plan workers) steps after × IsWhole after
    × IsOutputBy j.plan j.lines (attempts_on j.plan after) o

-- the steps commit this number of lines, and there are more
abbrev pub CommitSome : Accepted → ℕ → List Step → ℕ → Type 0
CommitSome j workers steps committed =
    (after : Board) × Plays j.plan (first_board j.plan workers) steps after
    × (after.committed ≡ committed)
    × (committed < length j.plan.readings)

-- one of the steps is refused with this fault, after those before it were done
abbrev pub StopAt : Accepted → ℕ → List Step → BoardFault → Type 0
StopAt j workers steps fault =
    (halt : Halt) × (board : Board) × Halts j.plan (first_board j.plan workers) steps halt board
    × (halt.fault ≡ fault)

-- the faults of the steps, unless memory ran out
abbrev pub FailsBySteps : Accepted → ℕ → List Step → Fault → Type 0
FailsBySteps j workers steps (faults.Attempts line) =
    StopAt j workers steps (refusals.Attempts line)
FailsBySteps j workers steps faults.ClockSpent = StopAt j workers steps refusals.ClockSpent
FailsBySteps j workers steps faults.Memory = Unit {0}
FailsBySteps j workers steps _ = ⊥

-- what the steps give over a plan
abbrev pub IsRun : Accepted → ℕ → List Step → Result Run Fault → Type 0
IsRun j workers steps (Ok (runs.Output o)) = CommitAll j workers steps o
IsRun j workers steps (Ok (runs.Unfinished committed)) = CommitSome j workers steps committed
IsRun j workers steps (Err fault) = FailsBySteps j workers steps fault

-- before the steps the inputs are judged
abbrev pub IsRunOf : Result Accepted Refused → ℕ → List Step → Result Run Fault → Type 0
IsRunOf (Ok j) workers steps run = IsRun j workers steps run
IsRunOf (Err refused) workers steps (Ok run) = ⊥
IsRunOf (Err refused) workers steps (Err fault) = Fails fault (Err refused)

-- The number of workers is judged first of all.
abbrev pub IsBySteps : Inputs → ℕ → List Step → Result Run Fault → Type 0
IsBySteps i workers steps run =
    (AreWorkers workers × IsRunOf (judgement i) workers steps run)
    ⊎ ((AreWorkers workers → ⊥) × (run ≡ Err faults.BadWorkers))
