use Rattle.std.proofs.Common.{◌+◌, arith}
use Rattle.version_store.proofs.Positions.{mark_next}
use Rattle.version_store.proofs.entry_list.mark_all.Goals as goal

pub loop-i-preserved : goal.loop-i-preserved
loop-i-preserved g c =
    rw (← c.index-entries-i.is)
    (mark_next c.args.entries.now c.loop-i.entries c.loop-i.i (c.loop-i.i + 1) c.index-entries-i.result c.loop-i.invariant (omega arith) c.loop-i-test.true c.index-entries-i.is)
