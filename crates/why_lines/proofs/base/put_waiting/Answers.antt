use Rattle.std.proofs.Common.{inr, refl}
use Rattle.circ_records.specs.Records.{record_at}
use Rattle.circ_records.specs.declared.key.Key.TheVariants as keys
use Rattle.circ_records.specs.declared.record.Item.{Item}
use Rattle.circ_records.specs.declared.record.Record.TheVariants as record_of
use Rattle.read_set.specs.Maps.{Map}
use Rattle.read_set.specs.Replay.{before}
use Rattle.why_lines.specs.Refers.{RefersTo}
use Rattle.why_lines.proofs.Adding.{adds_at, adds_then, listed}
use Rattle.why_lines.proofs.base.put_waiting.Goals as goal

pub loop-hold-preserved : goal.loop-hold-preserved
loop-hold-preserved c =
    let M : Map = before c.args.tracer.now.plan.now c.args.tracer.now.next in
    let item : Item = c.args.item.now in
    adds_then (RefersTo (record_of.Item item)) M (record_at c.args.records.now) (record_at c.loop-hold.records) (record_at c.put_patron.new.records) c.loop-hold.invariant
    (adds_at (RefersTo (record_of.Item item)) M (record_at c.loop-hold.records) (record_at c.put_patron.new.records) (keys.Patron c.hold-item.result.patron)
    (inr (
      c.hold-item.result,
      listed item.holds c.as_slice-holds.result.now c.loop-hold.hold-index c.hold-item.result c.as_slice-holds.ensures c.loop-hold-test.true c.hold-item.is,
      refl,
    ))
    c.in_ok-put_patron.ensures)
