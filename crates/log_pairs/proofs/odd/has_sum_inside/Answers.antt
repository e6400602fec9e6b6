use Rattle.std.proofs.Common.{◌≡◌, ◌<◌, length, take, true, sym, arith, ◌∙◌}
use Rattle.sip_reader.specs.Sum.{has_trailer}
use Rattle.log_pairs.proofs.Sums.{sum-within}
use Rattle.log_pairs.proofs.odd.has_sum_inside.Goals as goal

pub returns-then-is_some : goal.returns-then-is_some
returns-then-is_some c =
    let m = c.args.message.now in
    let k = c.loop-end.end in
    let has : has_trailer (take k m) ≡ true = grind (arith, c.unsummed.ensures.summed, c.is_some.ensures, c.if-is_some.true) in
    sym (sum-within (length m) k m (omega arith) has)
