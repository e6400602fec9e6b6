use Rattle.way_laws.proofs.Ruled.{same-line}
use Rattle.way_laws.proofs.same_if_no_word_differs.Goals as goal

pub returns : goal.returns
returns c = same-line
