use Rattle.board_steps.proofs.Fixed.{determined}
use Rattle.board_steps.proofs.steps_are_determined.Goals as goal

pub returns : goal.returns
returns c = determined
