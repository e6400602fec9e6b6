use Rattle.read_set.proofs.Kept.{meaning-keeps}
use Rattle.read_set.proofs.laws.meaning_keeps_coherence.Goals as goal

pub returns : goal.returns
returns c = meaning-keeps
