use Rattle.board_steps.proofs.Steps.{take_step, look_step, publish_step, check_step, commit_step}
use Rattle.board_steps.proofs.calls_keep.Goals as goal

pub returns-clause-take : goal.returns-clause-take
returns-clause-take c = take_step

pub returns-clause-look : goal.returns-clause-look
returns-clause-look c = look_step

pub returns-clause-publish : goal.returns-clause-publish
returns-clause-publish c = publish_step

pub returns-clause-check : goal.returns-clause-check
returns-clause-check c = check_step

pub returns-clause-commit : goal.returns-clause-commit
returns-clause-commit c = commit_step
