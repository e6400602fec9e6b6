use Rattle.speculate.proofs.Determined.{plays_one, plays_or_memory}
use Rattle.speculate.proofs.laws.plays_lead_to_one_board.Goals as goal

pub returns-clause-one : goal.returns-clause-one
returns-clause-one c = plays_one

pub returns-clause-memory : goal.returns-clause-memory
returns-clause-memory c = plays_or_memory
