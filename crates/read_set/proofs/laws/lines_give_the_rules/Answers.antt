use Rattle.read_set.proofs.WholeMaps.{lines-give}
use Rattle.read_set.proofs.laws.lines_give_the_rules.Goals as goal

pub returns : goal.returns
returns c = lines-give
