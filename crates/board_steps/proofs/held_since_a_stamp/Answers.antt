use Rattle.board_steps.proofs.Histories.{held_done, held_checking}
use Rattle.board_steps.proofs.held_since_a_stamp.Goals as goal

pub returns-clause-done : goal.returns-clause-done
returns-clause-done c = held_done

pub returns-clause-checking : goal.returns-clause-checking
returns-clause-checking c = held_checking

pub returns-clause-counted : goal.returns-clause-counted
returns-clause-counted c = λ plan b ok. ok.counted
