use Rattle.speculate.proofs.Led.{plays_reached, halts_reached}
use Rattle.speculate.proofs.laws.plays_are_reached.Goals as goal

pub returns-clause-all : goal.returns-clause-all
returns-clause-all c = plays_reached

pub returns-clause-halt : goal.returns-clause-halt
returns-clause-halt c = halts_reached
