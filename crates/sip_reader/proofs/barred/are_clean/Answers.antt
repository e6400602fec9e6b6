use Rattle.std.proofs.Common.{arith}
use Rattle.sip_reader.specs.Devices.Bars.{is_clean}
use Rattle.sip_reader.proofs.Covers.{end_decides, front_fails}
use Rattle.sip_reader.proofs.barred.are_clean.Goals as goal

pub returns-then-is_clean_block : goal.returns-then-is_clean_block
returns-then-is_clean_block c = end_decides is_clean c.args.bytes.now 8 _ _ (omega arith) (omega arith) c.is_clean_block.ensures c.if-is_clean_block.true c.is_clean_block-then-is_clean_block.ensures

pub returns-else-is_clean_block : goal.returns-else-is_clean_block
returns-else-is_clean_block c = front_fails is_clean c.args.bytes.now 8 _ (omega arith) (omega arith) c.is_clean_block.ensures c.if-is_clean_block.false

pub returns-then-is_clean_block-2 : goal.returns-then-is_clean_block-2
returns-then-is_clean_block-2 c = end_decides is_clean c.args.bytes.now 4 _ _ (omega arith) (omega arith) c.is_clean_block-then-len-ge4.ensures c.if-is_clean_block-2.true c.is_clean_block-then-is_clean_block-2.ensures

pub returns-else-is_clean_block-2 : goal.returns-else-is_clean_block-2
returns-else-is_clean_block-2 c = front_fails is_clean c.args.bytes.now 4 _ (omega arith) (omega arith) c.is_clean_block-then-len-ge4.ensures c.if-is_clean_block-2.false
