use Rattle.circ_records.specs.Records.{record_at}
use Rattle.read_set.specs.Replay.{before}
use Rattle.why_lines.specs.Devices.Adding.{Adds, IsNamed}
use Rattle.why_lines.proofs.base.put_named.Given as goal

abbrev pub invariant-loop-note : goal.invariant-loop-note
invariant-loop-note l = Adds (IsNamed l.notes) (before l.tracer.plan.now l.tracer.next) (record_at l.fn.records) (record_at l.records)
