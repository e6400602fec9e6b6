use Rattle.circ_records.specs.Records.{record_at}
use Rattle.circ_records.specs.declared.key.Key.TheVariants as keys
use Rattle.circ_records.specs.declared.record.Patron.{Patron}
use Rattle.circ_records.specs.declared.record.Record.TheVariants as record_of
use Rattle.read_set.specs.Maps.{Map}
use Rattle.read_set.specs.Replay.{before}
use Rattle.why_lines.specs.Refers.{RefersTo}
use Rattle.why_lines.proofs.Adding.{adds_at, adds_then, listed}
use Rattle.why_lines.proofs.base.put_fees.Goals as goal

pub loop-id-preserved : goal.loop-id-preserved
loop-id-preserved c =
    let M : Map = before c.args.tracer.now.plan.now c.args.tracer.now.next in
    let patron : Patron = c.args.patron.now in
    adds_then (RefersTo (record_of.Patron patron)) M (record_at c.args.records.now) (record_at c.loop-id.records) (record_at c.put_fee.new.records) c.loop-id.invariant
    (adds_at (RefersTo (record_of.Patron patron)) M (record_at c.loop-id.records) (record_at c.put_fee.new.records) (keys.Fee c.id-item.result)
    (listed patron.fees c.as_slice-ids.result.now c.loop-id.id-index c.id-item.result c.as_slice-ids.ensures c.loop-id-test.true c.id-item.is)
    c.in_ok-put_fee.ensures)
