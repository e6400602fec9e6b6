use Rattle.std.proofs.Common.{◌∙◌, ap, not}
use Rattle.sip_reader.proofs.Covers.{none_barred}
use Rattle.sip_reader.proofs.barred.has_barred.Goals as goal

pub returns : goal.returns
returns c = ap not c.are_clean.ensures ∙ none_barred c.args.bytes.now
