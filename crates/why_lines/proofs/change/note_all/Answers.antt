use Rattle.std.proofs.Common.{◌≡◌, ◌∙◌, ◌++◌, ◌∷◌, [], take, take_all, sym, ap, subst}
use Rattle.std.proofs.lemmas.List.{take_more}
use Rattle.circ_records.specs.Records.{Entries}
use Rattle.circ_records.specs.declared.key.Key.{Key}
use Rattle.circ_records.specs.declared.record.Record.{Record}
use Rattle.why_lines.specs.Devices.Noted.{Each, IsNoted}
use Rattle.why_lines.proofs.Noting.{each_push, each_weaker}
use Rattle.why_lines.proofs.change.note_all.Goals as goal

pub loop-entry-preserved : goal.loop-entry-preserved
loop-entry-preserved c =
    let entries : Entries = c.as_slice-entries.result.now in
    let i = c.loop-entry.entry-index in
    let entry : Key × Record = c.entry-item.result in
    let old : Key → Type 0 = IsNoted c.args.before.now c.args.after.now c.loop-entry.changes.entries in
    let noted : Key → Type 0 = IsNoted c.args.before.now c.args.after.now c.note.new.changes.entries in
    record {
      noted = c.in_ok-note.ensures.noted;
      keeps = λ k h. c.in_ok-note.ensures.keeps k (c.loop-entry.invariant.keeps k h);
      each =
          subst (λ (es : Entries). Each es noted) (sym (take_more entries i entry c.loop-entry-test.true ∙ ap (λ (e : Key × Record). take i entries ++ e ∷ []) (sym c.entry-item.is)))
          (each_push noted (take i entries) entry
          (each_weaker old noted (take i entries) c.in_ok-note.ensures.keeps c.loop-entry.invariant.each)
          c.in_ok-note.ensures.there);
    }

pub returns-clause-each : goal.returns-clause-each
returns-clause-each c =
    subst (λ (es : Entries). Each es (IsNoted c.args.before.now c.args.after.now c.loop-entry.changes.entries))
    (take_all c.loop-entry.entry-index c.as_slice-entries.result.now c.loop-entry-test.false ∙ c.as_slice-entries.ensures.records) c.loop-entry.invariant.each
