use Rattle.std.proofs.Common.{ap, arith, length, ◌<◌, ◌≡◌, ◌∙◌}
use Rattle.log_pairs.specs.Pairs.{closed_of}
use Rattle.log_pairs.proofs.Places.{any-default, mapped-length, mapped-more}
use Rattle.log_pairs.proofs.pairing.close_of.Goals as goal

pub loop-at-preserved : goal.loop-at-preserved
loop-at-preserved c =
    let f = closed_of c.args.all c.args.connection.now in
    let old = c.args.waiting.now in
    let size = old.ok.0 in
    let whole = c.len-at-end.ensures in
    let in-range = c.loop-at-test.true in
    let below : c.loop-at.at < length old.items = omega arith in
    let same : length c.loop-at.waiting.items ≡ length old.items = ap length c.loop-at.invariant ∙ mapped-length f old.items c.loop-at.at (omega arith) in
    let its = any-default c.loop-at.waiting.items c.loop-at.at c.index_mut.result.now (omega (arith, below, same)) c.index_mut.ensures.value in
    mapped-more f old.items c.loop-at.waiting.items c.loop-at.at c.close_of.new.self below c.loop-at.invariant (c.close_of.ensures ∙ ap f its)
