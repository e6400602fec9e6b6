use Rattle.std.proofs.Common.{◌∙◌, arith, sym}
use Rattle.sip_reader.specs.Devices.Bars.{is_clean}
use Rattle.sip_reader.proofs.Covers.{last_decides, one_fails, one_more}
use Rattle.sip_reader.proofs.barred.are_clean_by_blocks.Goals as goal

pub returns-then-not-is_clean_block : goal.returns-then-not-is_clean_block
returns-then-not-is_clean_block c =
    one_fails is_clean c.args.bytes.now c.loop-at.at 16 (sym c.is_clean_block.ensures ∙ c.if-not-is_clean_block.true)

pub loop-at-preserved : goal.loop-at-preserved
loop-at-preserved c = record {
  within = omega arith;
  before = one_more is_clean c.args.bytes.now c.loop-at.at 16 c.loop-at.invariant.before (sym c.is_clean_block.ensures ∙ c.if-not-is_clean_block.false);
}

pub returns : goal.returns
returns c = c.is_clean_block-2.ensures ∙ last_decides is_clean c.args.bytes.now c.loop-at.at 16 c.loop-at.invariant.before (omega arith) c.requires
