use Rattle.sip_answer.proofs.AsRecorded.{agreeing}
use Rattle.sip_answer.proofs.laws.agrees_as_recorded.Goals as goal

pub returns : goal.returns
returns c = agreeing
