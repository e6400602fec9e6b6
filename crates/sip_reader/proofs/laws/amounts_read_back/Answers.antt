use Rattle.sip_reader.proofs.AmountTexts.{amount_of-amount_text}
use Rattle.sip_reader.proofs.laws.amounts_read_back.Goals as goal

pub returns : goal.returns
returns c = amount_of-amount_text
