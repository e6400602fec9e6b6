use Rattle.board_steps.proofs.Histories.{opening_reached}
use Rattle.board_steps.proofs.opening_is_reached.Goals as goal

pub returns : goal.returns
returns c = opening_reached
