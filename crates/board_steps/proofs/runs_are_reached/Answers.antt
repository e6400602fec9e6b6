use Rattle.board_steps.proofs.Histories.{opening_reached, run_reached}
use Rattle.board_steps.specs.Steps.{opening}
use Rattle.board_steps.proofs.runs_are_reached.Goals as goal

pub returns : goal.returns
returns c = λ plan workers attempt clock steps new run. run_reached plan steps (opening plan workers attempt clock) new (opening_reached plan workers attempt clock) run
