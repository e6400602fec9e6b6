use Rattle.sip_reader.proofs.Covers.{no_lane}
use Rattle.sip_reader.proofs.barred.is_clean_block.Goals as goal

pub returns : goal.returns
returns o c = no_lane _ c.args.bytes.now c.args.at c.requires.few c.requires.room c.type_inv.bytes
