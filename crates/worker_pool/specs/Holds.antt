-- What one hold of the lock does and returns (the pool).
use Rattle.std.specs.Prelude.{◌≡◌, ℕ, Option, Some, None, Result, Ok, Err}
use Rattle.read_set.specs.Plans.{Planned}
use Rattle.board_steps.specs.Board.{Board}
use Rattle.board_steps.specs.Choice.{IsChoice}
use Rattle.board_lines.specs.declared.reply.Reply.{Reply}
use Rattle.board_lines.specs.declared.reply.Reply.TheVariants as replies
use Rattle.speculate.specs.Choices.{Begins, chosen}
use Rattle.speculate.specs.declared.choice.Choice.{Choice}
use Rattle.speculate.specs.declared.steps.BoardFault.{BoardFault}
use Rattle.speculate.specs.declared.steps.BoardFault.TheVariants as faults
use Rattle.worker_pool.specs.declared.calls.Left.{Left}
use Rattle.worker_pool.specs.declared.held.FusedBoard.{FusedBoard}

-- the fault for which a reply refuses its call
abbrev pub fault_of : {J : Type 0} → Reply J → Option BoardFault
fault_of (replies.Attempts line) = Some (faults.Attempts line)
fault_of replies.ClockSpent = Some faults.ClockSpent
fault_of replies.Memory = Some faults.Memory
fault_of _ = None

-- the same of a reply, if there is one
abbrev pub fault_in : {J : Type 0} → Option (Reply J) → Option BoardFault
fault_in None = None
fault_in (Some reply) = fault_of reply

-- the fault that was stored, if there is one; else the reply
abbrev pub given : {A : Type 0} → A → Option BoardFault → Result A Left
given reply None = Ok reply
given reply (Some fault) = Err (record { 0 = fault })

-- The board's call is made once, and its reply returned; but if it refuses the call, the fault is
-- stored and returned.
pub record Calls {A J : Type 0} (does : Board → A → Board → Type 0) (fault_by : A → Option BoardFault) (old : FusedBoard J) (result : Result A Left) (new : FusedBoard J) : Type 0 where
  pub reply : A
  pub done : does old.board reply new.board
  pub leaves : new.left ≡ fault_by reply
  pub gives : result ≡ given reply new.left

-- A hold of the lock.
pub record Holds {A J : Type 0} (does : Board → A → Board → Type 0) (fault_by : A → Option BoardFault) (old : FusedBoard J) (result : Result A Left) (new : FusedBoard J) : Type 0 where
  -- where a fault was stored before, nothing changes, and that fault is returned
  pub stays : (fault : BoardFault) → old.left ≡ Some fault → (new ≡ old) × (result ≡ Err (record { 0 = fault }))
  -- else the call is made
  pub calls : old.left ≡ None → Calls does fault_by old result new

-- the choice of a free worker, and the call that it names
abbrev pub BeginsChosen : {J : Type 0} → Planned → ℕ → Board → Choice × Option (Reply J) → Board
    → Type 0
BeginsChosen plan worker old begun new =
    IsChoice old (chosen begun.0) × Begins plan old worker begun.0 begun.1 new
