use Rattle.read_set.proofs.Kept.{replay-keeps}
use Rattle.read_set.proofs.laws.replay_keeps_coherence.Goals as goal

pub returns : goal.returns
returns c = replay-keeps
