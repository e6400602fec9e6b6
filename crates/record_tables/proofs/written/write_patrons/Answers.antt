use Rattle.std.proofs.Common.{◌∙◌, subst, take_all}
use Rattle.circ_records.specs.Records.{Entries}
use Rattle.record_tables.specs.Writing.{HoldsPatrons}
use Rattle.record_tables.proofs.Writing.{one-more, patron-widths, patrons-more}
use Rattle.record_tables.proofs.written.write_patrons.Goals as goal

pub loop-entry-init : goal.loop-entry-init
loop-entry-init c = c.in_ok-texts.ensures c.args.records.now

pub entry-requires : goal.entry-requires
entry-requires c = patron-widths c.args.records.now _ c.loop-entry.texts c.loop-entry.invariant

pub loop-entry-preserved : goal.loop-entry-preserved
loop-entry-preserved c =
    let all = c.as_slice-entries.result.now in
    subst (λ (es : Entries). HoldsPatrons c.args.records.now es c.entry.new.self) (one-more c.loop-entry.entry-index all c.entry-item.result c.entry-item.is c.loop-entry-test.true)
    (patrons-more c.args.records.now _ c.entry-item.result c.loop-entry.texts c.entry.new.self c.loop-entry.invariant c.in_ok-entry.ensures)

pub returns : goal.returns
returns c =
    subst (λ (es : Entries). HoldsPatrons c.args.records.now es c.loop-entry.texts)
    (take_all c.loop-entry.entry-index c.as_slice-entries.result.now c.loop-entry-test.false ∙ c.as_slice-entries.ensures.records) c.loop-entry.invariant
