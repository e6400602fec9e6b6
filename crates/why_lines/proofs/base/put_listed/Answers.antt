use Rattle.std.proofs.Common.{List}
use Rattle.circ_records.specs.Records.{record_at}
use Rattle.read_set.specs.Maps.{Map}
use Rattle.read_set.specs.Replay.{before}
use Rattle.read_set.specs.declared.notes.Note.{Note}
use Rattle.why_lines.specs.Devices.Adding.{IsNamed, IsNamedBy}
use Rattle.why_lines.proofs.Adding.{adds_as, adds_then}
use Rattle.why_lines.proofs.Knowing.{named_note}
use Rattle.why_lines.proofs.base.put_listed.Goals as goal

pub loop-note-preserved : goal.loop-note-preserved
loop-note-preserved c =
    let M : Map = before c.args.tracer.now.plan.now c.args.tracer.now.next in
    let notes : List Note = c.args.notes.now in
    adds_then (IsNamed notes) M (record_at c.args.records.now) (record_at c.loop-note.records) (record_at c.put_listed_by.new.records) c.loop-note.invariant
    (adds_as (IsNamedBy c.note-item.result) (IsNamed notes) M (record_at c.loop-note.records) (record_at c.put_listed_by.new.records)
    (λ k. named_note notes c.loop-note.note-index c.note-item.result k c.requires c.loop-note-test.true c.note-item.is)
    c.in_ok-put_listed_by.ensures)
