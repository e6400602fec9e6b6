use Rattle.board_steps.proofs.Steps.{step_reached}
use Rattle.board_steps.proofs.steps_keep.Goals as goal

pub returns : goal.returns
returns c = step_reached
