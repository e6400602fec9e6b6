-- What lists of steps lead to is reached.
use Rattle.std.proofs.Common.{List, [], ◌∷◌, sym, subst, inl, inr}
use Rattle.std.specs.Prelude.{ℕ, take}
use Rattle.board_steps.specs.Board.{Board}
use Rattle.board_steps.specs.Reached.{Reached}
use Rattle.board_steps.specs.Steps.{Reply}
use Rattle.board_steps.specs.Steps.Call.{Take as TheTake, Look as TheLook, Publish as ThePublish, Check as TheCheck, Commit as TheCommit}
use Rattle.board_steps.proofs.Steps.{step_reached}
use Rattle.read_set.specs.Plans.{Planned}
use Rattle.speculate.specs.Playing.{Halts, Looks, Plays, Publishes, StepOf}
use Rattle.speculate.specs.declared.steps.Halt.{Halt}
use Rattle.speculate.specs.declared.steps.Step.{Step as WorkerStep}
use Rattle.speculate.specs.declared.steps.Step.TheVariants as steps

looks_reached : (plan : Planned) (old new : Board) (w : ℕ) (reply : Reply) → Reached plan old → Looks plan old w reply new → Reached plan new
looks_reached plan old new w reply reached (inl (k, wants, step)) = step_reached plan old new (TheLook w k) reply reached tt step
looks_reached plan old new w reply reached (inr (why, idle, same)) = subst (Reached plan) (sym same) reached

publishes_reached : (plan : Planned) (old new : Board) (w : ℕ) (reply : Reply) → Reached plan old → Publishes plan old w reply new → Reached plan new
publishes_reached plan old new w reply reached (inl (v, ready, settles, step)) = step_reached plan old new (ThePublish w v) reply reached settles step
publishes_reached plan old new w reply reached (inr (why, idle, same)) = subst (Reached plan) (sym same) reached

pub step_of_reached : (plan : Planned) (old new : Board) (step : WorkerStep) (reply : Reply) → Reached plan old → StepOf plan old step reply new → Reached plan new
step_of_reached plan old new (steps.Take w n) reply reached h = step_reached plan old new (TheTake w n) reply reached tt h
step_of_reached plan old new (steps.Look w) reply reached h = looks_reached plan old new w reply reached h
step_of_reached plan old new (steps.Publish w) reply reached h = publishes_reached plan old new w reply reached h
step_of_reached plan old new (steps.Check w n) reply reached h = step_reached plan old new (TheCheck w n) reply reached tt h
step_of_reached plan old new (steps.Commit n) reply reached h = step_reached plan old new (TheCommit n) reply reached tt h

-- a list of steps keeps a reached board
pub plays_reached : (plan : Planned) (old new : Board) (list : List WorkerStep) → Reached plan old → Plays plan old list new → Reached plan new
plays_reached plan old new [] reached same = subst (Reached plan) (sym same) reached
plays_reached plan old new (step ∷ more) reached (mid, (reply, goes, kept), plays) =
    plays_reached plan mid new more (step_of_reached plan old mid step reply reached goes) plays

pub halts_reached : (plan : Planned) (old new : Board) (list : List WorkerStep) (halt : Halt) → Reached plan old → Halts plan old list halt new → Reached plan new
halts_reached plan old new list halt reached h = plays_reached plan old new (take halt.done list) reached h.0
