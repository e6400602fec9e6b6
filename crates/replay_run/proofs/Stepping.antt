-- Why a run by steps gives no output.
use Rattle.std.proofs.Common.{◌≡◌, ◌∙◌, ◌≤◌, ℕ, zero, suc, List, Result, Ok, Err, IfOk, length, ap, arith, refl}
use Rattle.std.proofs.lemmas.List.{length-map, length-replicate}
use Rattle.std.proofs.lemmas.List.FromFn.{length-map-range_with_len}
use Rattle.sip_reader.specs.Reading.{reading}
use Rattle.journal_table.specs.Entry.{Entry}
use Rattle.read_set.specs.Plans.{Planned, readings_of}
use Rattle.board_steps.specs.Board.{Board}
use Rattle.speculate.specs.BoardEnds.{attempt_on}
use Rattle.speculate.specs.Playing.{Halts}
use Rattle.speculate.specs.declared.steps.BoardFault.{BoardFault}
use Rattle.speculate.specs.declared.steps.BoardFault.TheVariants as refusals
use Rattle.speculate.specs.declared.steps.Halt.{Halt}
use Rattle.speculate.specs.declared.steps.Step.{Step}
use Rattle.replay_run.specs.Attempts.{IfOutput}
use Rattle.replay_run.specs.BySteps.{AreWorkers, FailsBySteps, IsRun, IsRunOf, attempts_on, first_board}
use Rattle.replay_run.specs.ByWorkers.{IsMadeOf, MayFail}
use Rattle.replay_run.specs.Faults.{board_fault}
use Rattle.replay_run.specs.Judgements.{Fails, Accepted, Refused}
use Rattle.replay_run.specs.OneThread.{IsOutput, IsOutputBy}
use Rattle.replay_run.specs.declared.by_steps.Run.{Run}
use Rattle.replay_run.specs.declared.by_steps.Run.TheVariants as runs
use Rattle.replay_run.specs.declared.inputs.Output.{Output}
use Rattle.replay_run.specs.declared.fault.Fault.{Fault}
use Rattle.replay_run.specs.declared.fault.Fault.TheVariants as faults

-- a list of steps that stopped
pub stopped : (j : Accepted) (workers : ℕ) (steps : List Step) (halt : Halt) (board : Board)
    → Halts j.plan (first_board j.plan workers) steps halt board
    → FailsBySteps j workers steps (board_fault halt.fault)
stopped j workers steps halt board halts = by halt.fault refl
  where
    by : (f : BoardFault) → halt.fault ≡ f → FailsBySteps j workers steps (board_fault f)
    by (refusals.Attempts line) e = (halt, board, halts, e)
    by refusals.ClockSpent e = (halt, board, halts, e)
    by refusals.Memory e = tt

-- inputs that are refused
pub refused : (due : Result Accepted Refused) (workers : ℕ) (steps : List Step) (fault : Fault)
    → Fails fault due → IsRunOf due workers steps (Err fault)
refused (Err e) workers steps fault fails = fails
refused (Ok j) workers steps faults.BadWorkers fails = absurd fails
refused (Ok j) workers steps faults.PolicyText fails = cc fails
refused (Ok j) workers steps (faults.PolicyRule key) fails = cc fails
refused (Ok j) workers steps (faults.BaseTable table) fails = cc fails
refused (Ok j) workers steps (faults.BaseRule table row rule values) fails = cc fails
refused (Ok j) workers steps faults.JournalTable fails = cc fails
refused (Ok j) workers steps (faults.JournalRule row rule) fails = cc fails
refused (Ok j) workers steps (faults.Attempts line) fails = absurd fails
refused (Ok j) workers steps faults.ClockSpent fails = absurd fails
refused (Ok j) workers steps faults.Memory fails = tt

pub unmade : (due : Result Accepted Refused) (fault : Fault) → Fails fault due → IsMadeOf due (Err fault)
unmade (Err e) fault fails = fails
unmade (Ok j) faults.BadWorkers fails = absurd fails
unmade (Ok j) faults.PolicyText fails = cc fails
unmade (Ok j) (faults.PolicyRule key) fails = cc fails
unmade (Ok j) (faults.BaseTable table) fails = cc fails
unmade (Ok j) (faults.BaseRule table row rule values) fails = cc fails
unmade (Ok j) faults.JournalTable fails = cc fails
unmade (Ok j) (faults.JournalRule row rule) fails = cc fails
unmade (Ok j) (faults.Attempts line) fails = absurd fails
unmade (Ok j) faults.ClockSpent fails = absurd fails
unmade (Ok j) faults.Memory fails = tt

-- what a worker meets
pub met : (fault : BoardFault) → MayFail (board_fault fault)
met (refusals.Attempts line) = tt
met refusals.ClockSpent = tt
met refusals.Memory = tt

-- a number of workers that isn't refused
pub crew : (workers : ℕ) → (workers ≡ 0 → ⊥) → workers ≤ 64 → AreWorkers workers
crew zero some few = absurd (some refl)
crew (suc workers) some few = (omega arith, few)

-- the attempts of a board are one for each line
pub each-once : (plan : Planned) (lines : List Entry) (b : Board) (o : Output)
    → plan.readings ≡ readings_of lines → IsOutputBy plan lines (attempts_on plan b) o
    → length o.attempts.items ≡ length lines
each-once plan lines b o fits output =
    ap length output.attempts
    ∙ length-map-range_with_len (attempt_on b) plan.first (length plan.readings)
    ∙ ap length fits
    ∙ length-map lines (λ (line : Entry). reading line.request)

pub in-order-each-once : (plan : Planned) (lines : List Entry) (o : Output)
    → plan.readings ≡ readings_of lines → IsOutput plan lines o
    → length o.attempts.items ≡ length lines
in-order-each-once plan lines o fits output =
    ap length output.attempts
    ∙ length-replicate (length plan.readings) 0
    ∙ ap length fits
    ∙ length-map lines (λ (line : Entry). reading line.request)

pub one-each : (j : Accepted) (workers : ℕ) (steps : List Step) (r : Result Run Fault)
    → j.plan.readings ≡ readings_of j.lines → IsRun j workers steps r
    → IfOk r (λ run. IfOutput run (λ o. length o.attempts.items ≡ length j.lines))
one-each j workers steps (Ok (runs.Output o)) fits (after, played, whole, output) =
    each-once j.plan j.lines after o fits output
one-each j workers steps (Ok (runs.Unfinished committed)) fits run = tt
one-each j workers steps (Err fault) fits run = tt
