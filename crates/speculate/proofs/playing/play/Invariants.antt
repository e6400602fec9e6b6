use Rattle.std.proofs.Common.{take}
use Rattle.speculate.specs.Playing.{Plays}
use Rattle.speculate.proofs.playing.play.Given as goal

-- the steps so far led from the first board to this one
abbrev pub invariant-loop-done : goal.invariant-loop-done
invariant-loop-done g l = Plays g.J.PlanName.plan l.fn.board (take l.done l.steps) l.board
