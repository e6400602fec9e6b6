use Rattle.std.proofs.Common.{◌∙◌, subst, take_all}
use Rattle.circ_records.specs.Records.{Entries}
use Rattle.record_tables.specs.Writing.{HoldsItems}
use Rattle.record_tables.proofs.Writing.{item-widths, items-more, one-more}
use Rattle.record_tables.proofs.written.write_items.Goals as goal

pub entry-requires : goal.entry-requires
entry-requires c = item-widths _ c.loop-entry.texts c.loop-entry.invariant

pub loop-entry-preserved : goal.loop-entry-preserved
loop-entry-preserved c =
    let all = c.as_slice-entries.result.now in
    subst (λ (es : Entries). HoldsItems es c.entry.new.self) (one-more c.loop-entry.entry-index all c.entry-item.result c.entry-item.is c.loop-entry-test.true)
    (items-more _ c.entry-item.result c.loop-entry.texts c.entry.new.self c.loop-entry.invariant c.in_ok-entry.ensures)

pub returns : goal.returns
returns c =
    subst (λ (es : Entries). HoldsItems es c.loop-entry.texts)
    (take_all c.loop-entry.entry-index c.as_slice-entries.result.now c.loop-entry-test.false ∙ c.as_slice-entries.ensures.records) c.loop-entry.invariant
