use Rattle.std.proofs.Common.{rules, ◌≡◌}
use Rattle.sip_reader.specs.Texts.{fee_id}
use Rattle.sip_reader.proofs.FeeIds.{is_id-fee}
use Rattle.sip_reader.proofs.id.Id.of_fee.Goals as goal

pub of_valid-requires : goal.of_valid-requires
unfolding fee_id
of_valid-requires c =
    let same : c.as_slice.result.now ≡ fee_id c.args.line c.args.k = search rules in
    rw same (is_id-fee c.args.line c.args.k c.ranges.line.fits c.ranges.k.fits)
