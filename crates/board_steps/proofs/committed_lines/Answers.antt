use Rattle.board_steps.proofs.Histories.{committed_ok, last_committed}
use Rattle.board_steps.proofs.committed_lines.Goals as goal

pub returns-clause-answer : goal.returns-clause-answer
returns-clause-answer c = λ plan b ok n answer e. (committed_ok plan b ok n answer e).answers

pub returns-clause-entries : goal.returns-clause-entries
returns-clause-entries c = λ plan b ok n answer e. (committed_ok plan b ok n answer e).map

pub returns-clause-last : goal.returns-clause-last
returns-clause-last c = last_committed
