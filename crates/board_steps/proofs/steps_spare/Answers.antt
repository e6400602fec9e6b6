use Rattle.board_steps.proofs.Stays.{committed_stays, sent_back}
use Rattle.board_steps.proofs.steps_spare.Goals as goal

pub returns-clause-committed : goal.returns-clause-committed
returns-clause-committed c = λ plan old new call reply m is h. committed_stays old m is plan call reply new h

pub returns-clause-sent_back : goal.returns-clause-sent_back
returns-clause-sent_back c = λ plan old new call reply m busy h. sent_back old m busy plan call reply new h
