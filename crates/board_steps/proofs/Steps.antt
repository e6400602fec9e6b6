-- Each step from a reached board leads to a reached board.
use Rattle.std.proofs.Common.{◌≡◌, ℕ, sym, subst, inl, inr}
use Rattle.circ_records.specs.declared.key.Key.{Key}
use Rattle.read_set.specs.Plans.{Planned}
use Rattle.read_set.specs.Settling.{Contents}
use Rattle.board_steps.specs.Board.{Board}
use Rattle.board_steps.specs.Reached.{Reached}
use Rattle.board_steps.specs.Steps.{Call, Reply, TakeStep, LookStep, PublishStep, CheckStep, CommitStep, Step, ByVersion, IsVersion}
use Rattle.board_steps.specs.Steps.Call.{Take, Look, Publish, Check, Commit}
use Rattle.board_steps.specs.Steps.Reply.{Idle, Taken, Seen, Stopped, Stranger, Placed, Lifted, Whole, Same, Changed, Commits, Later, Attempts, ClockSpent}
use Rattle.board_steps.proofs.Calls.{take_reached, seen_reached, stopped_reached, placed_reached, lifted_reached, whole_reached, same_reached, whole_check_reached, failed_reached, marked_reached}
use Rattle.board_steps.proofs.Truth.{commit_reached}

to : {plan : Planned} {b new : Board} → new ≡ b → Reached plan b → Reached plan new
to {plan} e h = subst (Reached plan) (sym e) h

pub take_step : (plan : Planned) (old : Board) (w n : ℕ) (reply : Reply) (new : Board) → Reached plan old → TakeStep old w n reply new → Reached plan new
take_step plan old w n (Taken a) new ok h = to h.3 (take_reached plan old w n ok h.0)
take_step plan old w n (Attempts m) new ok h = to h.3 ok
take_step plan old w n Idle new ok h = to h.1 ok
take_step plan old w n _ new ok h = absurd h

pub look_step : (plan : Planned) (old : Board) (w : ℕ) (k : Key) (reply : Reply) (new : Board) → Reached plan old → LookStep plan old w k reply new → Reached plan new
look_step plan old w k (Seen name value) new ok h = to h.5 (seen_reached plan old w k h.0 h.1 ok h.2 name h.3)
look_step plan old w k (Stopped m) new ok h = to h.4 (stopped_reached plan old w k h.0 h.1 ok h.2)
look_step plan old w k Idle new ok h = to h.1 ok
look_step plan old w k _ new ok h = absurd h

pub publish_step : (plan : Planned) (old : Board) (w : ℕ) (v : Contents) (reply : Reply) (new : Board) → Reached plan old → IsVersion plan v → PublishStep old w v reply new → Reached plan new
publish_step plan old w v Placed new ok m h = to h.8 (placed_reached plan old w h.0 h.1 v ok h.2 h.3 m h.4 h.5 h.6)
publish_step plan old w v Lifted new ok m h = to h.8 (lifted_reached plan old w h.0 h.1 v ok h.2 h.3 m h.5 h.6)
publish_step plan old w v Whole new ok m h = to h.6 (whole_reached plan old w h.0 h.1 v ok h.2 h.3 m h.4 h.5)
publish_step plan old w v Stranger new ok m h = to h.4 ok
publish_step plan old w v ClockSpent new ok m h = to h.6 ok
publish_step plan old w v Idle new ok m h = to h.1 ok
publish_step plan old w v _ new ok m h = absurd h

pub check_step : (plan : Planned) (old : Board) (w n : ℕ) (reply : Reply) (new : Board) → Reached plan old → CheckStep old w n reply new → Reached plan new
check_step plan old w n Same new ok h = to h.8 (same_reached plan old w n h.0 h.1 h.2 h.3 ok h.4 h.5 h.6 h.7)
check_step plan old w n (Changed key noted now) new ok h =
    elim h.6 [
      | inl g ↦ to g.1 (failed_reached plan old w n h.0 h.1 h.2 h.3 ok h.4)
      | inr g ↦ to g.2 (marked_reached plan old w n h.0 h.1 h.2 h.3 ok h.4)
    ]
check_step plan old w n Whole new ok h = to h.6 (whole_check_reached plan old w n h.0 h.1 h.2 h.3 ok h.4 h.5)
check_step plan old w n ClockSpent new ok h = to h.8 ok
check_step plan old w n Idle new ok h = to h.1 ok
check_step plan old w n _ new ok h = absurd h

pub commit_step : (plan : Planned) (old : Board) (n : ℕ) (reply : Reply) (new : Board) → Reached plan old → CommitStep old n reply new → Reached plan new
commit_step plan old n Commits new ok h = to h.4 (commit_reached plan old n h.0 h.1 h.2 ok h.3)
commit_step plan old n Later new ok h = to h.3 ok
commit_step plan old n Idle new ok h = to h.1 ok
commit_step plan old n _ new ok h = absurd h

pub step_reached : (plan : Planned) (old new : Board) (call : Call) (reply : Reply) → Reached plan old → ByVersion plan call → Step plan old call reply new → Reached plan new
step_reached plan old new (Take w n) reply ok v h = take_step plan old w n reply new ok h
step_reached plan old new (Look w k) reply ok v h = look_step plan old w k reply new ok h
step_reached plan old new (Publish w x) reply ok v h = publish_step plan old w x reply new ok v h
step_reached plan old new (Check w n) reply ok v h = check_step plan old w n reply new ok h
step_reached plan old new (Commit n) reply ok v h = commit_step plan old n reply new ok h
