use Rattle.std.proofs.Common.{◌∙◌, arith}
use Rattle.sip_reader.proofs.Ordered.{eight_are}
use Rattle.sip_reader.proofs.inline.word_at.Goals as goal

pub returns : goal.returns
returns c = c.from_be_bytes.ensures ∙ eight_are c.args.bytes.now c.args.i (omega arith)
