-- The lines of a board, one after another in the order of the journal, by one worker (the board:
-- driving in order).
use Rattle.std.specs.Prelude.{◌≡◌, ℕ, ◌<◌, ◌⊎◌, List, length}
use Rattle.read_set.specs.Plans.{Planned}
use Rattle.read_set.specs.Settling.{Contents}
use Rattle.board_steps.specs.Board.{Board}
use Rattle.board_steps.specs.Steps.{Call, IsVersion, Reply, Run, Step, opening}
use Rattle.board_steps.specs.Steps.Call.{Publish}
use Rattle.board_steps.specs.Steps.Reply.{ClockSpent}
use Rattle.speculate.specs.Finishing.{IsWhole}
use Rattle.speculate.specs.Playing.{HasRunning, WouldPlace}
use Rattle.speculate.specs.declared.steps.BoardFault.{BoardFault}
use Rattle.speculate.specs.declared.steps.BoardFault.TheVariants as faults

-- a board of one worker or more on which nothing was done, from attempt 0 and clock 0
abbrev pub IsNew : Planned → Board → Type 0
IsNew plan b = (workers : ℕ) × (0 < workers) × (b ≡ opening plan workers 0 0)

-- Driven: all lines are committed, each by one take, with no failed check and no stop.
pub record IsDriven (plan : Planned) (b : Board) : Type 0 where
  pub whole : IsWhole b
  pub commits : b.committed ≡ length plan.readings
  pub takes : b.takes ≡ length plan.readings
  pub failed : b.failed ≡ 0
  pub stops : b.stops ≡ 0

-- some steps lead from a board to another
abbrev pub RunsTo : Planned → Board → Board → Type 0
RunsTo plan old new = (steps : List (Call × Reply)) × Run plan old steps new

-- What may stop it: the clock at its end, exactly if the board's reply to the next act of
-- publication says so; or running out of memory, where the line runs, or where the publication that
-- is to go on would place an entry. So neither a take, a lifting, the end of a publication, a check
-- nor a commit stops it.
abbrev pub MayStop : Planned → Board → BoardFault → Type 0
MayStop plan b (faults.Attempts line) = ⊥
MayStop plan b faults.ClockSpent =
    (v : Contents) × IsVersion plan v × Step plan b (Publish 0 v) ClockSpent b
MayStop plan b faults.Memory = HasRunning b 0 ⊎ WouldPlace plan b 0
