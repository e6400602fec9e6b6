use Rattle.board_steps.proofs.Stamps.{above_change, below_change, check_stays_needed}
use Rattle.board_steps.proofs.stamps_after_a_change.Goals as goal

pub returns-clause-above : goal.returns-clause-above
returns-clause-above c = above_change

pub returns-clause-below : goal.returns-clause-below
returns-clause-below c = below_change

pub returns-clause-still : goal.returns-clause-still
returns-clause-still c = check_stays_needed
