use Rattle.read_set.proofs.WholeMaps.{asking-gives}
use Rattle.read_set.proofs.laws.asking_gives_the_rules.Goals as goal

pub returns : goal.returns
returns c = asking-gives
