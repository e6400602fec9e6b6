use Rattle.log_pairs.proofs.Places.{rightly}
use Rattle.log_pairs.proofs.pairing.gives_rightly.Goals as goal

pub returns : goal.returns
returns c = rightly
