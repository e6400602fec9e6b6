use Rattle.read_set.specs.Plans.{Planned}
use Rattle.board_steps.specs.Board.{Board}
use Rattle.board_steps.specs.Reached.{EachHeld, Reached}
use Rattle.board_steps.proofs.Histories.{held_done, held_checking}
use Rattle.board_steps.proofs.Steps.{take_step, look_step, publish_step, check_step, commit_step}
use Rattle.board_steps.proofs.calls_hold.Goals as goal

holds : (plan : Planned) (b : Board) → Reached plan b → EachHeld b
holds plan b reached = record { done = held_done plan b reached; checking = held_checking plan b reached }

pub returns-clause-take : goal.returns-clause-take
returns-clause-take c = λ plan old w n reply new reached step. holds plan new (take_step plan old w n reply new reached step)

pub returns-clause-look : goal.returns-clause-look
returns-clause-look c = λ plan old w k reply new reached step. holds plan new (look_step plan old w k reply new reached step)

pub returns-clause-publish : goal.returns-clause-publish
returns-clause-publish c = λ plan old w v reply new reached settles step. holds plan new (publish_step plan old w v reply new reached settles step)

pub returns-clause-check : goal.returns-clause-check
returns-clause-check c = λ plan old w n reply new reached step. holds plan new (check_step plan old w n reply new reached step)

pub returns-clause-commit : goal.returns-clause-commit
returns-clause-commit c = λ plan old n reply new reached step. holds plan new (commit_step plan old n reply new reached step)
