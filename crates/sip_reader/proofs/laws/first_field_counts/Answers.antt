use Rattle.sip_reader.proofs.Barless.{first_counts}
use Rattle.sip_reader.proofs.laws.first_field_counts.Goals as goal

pub returns : goal.returns
returns c = first_counts
