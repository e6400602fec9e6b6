use Rattle.circ_records.specs.Records.{record_at}
use Rattle.circ_records.specs.declared.record.Record.TheVariants as record_of
use Rattle.read_set.specs.Replay.{before}
use Rattle.why_lines.specs.Devices.Adding.{Adds}
use Rattle.why_lines.specs.Refers.{RefersTo}
use Rattle.why_lines.proofs.base.put_items.Given as goal

abbrev pub invariant-loop-id : goal.invariant-loop-id
invariant-loop-id l = Adds (RefersTo (record_of.Patron l.patron)) (before l.tracer.plan.now l.tracer.next) (record_at l.fn.records) (record_at l.records)
