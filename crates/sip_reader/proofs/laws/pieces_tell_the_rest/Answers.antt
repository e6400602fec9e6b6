use Rattle.std.proofs.lemmas.List.Splits.{join_with_byte-slice_split}
use Rattle.sip_reader.proofs.Barless.{all_barless}
use Rattle.sip_reader.proofs.laws.pieces_tell_the_rest.Goals as goal

pub returns : goal.returns
returns c = λ rest. (join_with_byte-slice_split 124 rest, all_barless rest)
