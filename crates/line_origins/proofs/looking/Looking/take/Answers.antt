use Rattle.std.proofs.Common.{◌∙◌, sym, ap}
use Rattle.std.specs.BTreeMap.{is_at}
use Rattle.std.specs.Map.{lookup}
use Rattle.circ_records.specs.Keys.{key_cmp}
use Rattle.circ_records.specs.Records.{Entries, record_at}
use Rattle.circ_records.specs.declared.key.Key.{Key}
use Rattle.read_set.specs.Asks.{Done}
use Rattle.read_set.specs.Notes.{note_of}
use Rattle.read_set.specs.declared.notes.Note.{Note}
use Rattle.read_set.proofs.More.{asked_there, noted_gains}
use Rattle.line_origins.proofs.Seeing.{seen_added}
use Rattle.line_origins.proofs.looking.Looking.take.Goals as goal

pub invariant_of-self-2 : goal.invariant_of-self-2
invariant_of-self-2 g c =
    let records : Entries = g.N.ShelfName.records in
    let note : Note = record { key = c.in_ok-clone.field-0; name = c.name-name.result; found = c.new-found.result } in
    record {
      named = c.args.self.now.named;
      seen =
          seen_added records g.N.ShelfName.writers c.args.self.now.notes c.add.new.self note c.add.result c.add.ensures.ok c.add.ensures.err c.args.self.now.seen
          (ap (note_of c.args.self.now.notes) c.in_ok-clone.ensures.cases ∙ c.requires)
          (ap (record_at records) c.in_ok-clone.ensures.cases ∙ ap (λ (r : Entries). record_at r c.args.key.now) (sym c.args.self.now.named.0) ∙ sym (c.new-found.ensures ∙ c.in_ok-found.ensures))
          (c.name-name.ensures ∙ ap (λ ws. lookup (is_at (key_cmp c.args.key.now)) ws) c.args.self.now.named.1
          ∙ ap (λ (j : Key). lookup (is_at (key_cmp j)) g.N.ShelfName.writers) (sym c.in_ok-clone.ensures.cases));
    }

pub returns-clause-gives : goal.returns-clause-gives
returns-clause-gives g c =
    let note : Note = record { key = c.args.key.now; name = c.name-name.result; found = c.new-found.result } in
    rw (c.in_ok-add.ensures.ok, c.in_ok-clone.ensures.cases) (asked_there c.args.self.now.notes note c.requires ∙ ap Done (sym c.in_ok-copy.ensures))

pub returns-clause-keeps : goal.returns-clause-keeps
returns-clause-keeps g c =
    let note : Note = record { key = c.args.key.now; name = c.name-name.result; found = c.new-found.result } in
    rw (c.in_ok-add.ensures.ok, c.in_ok-clone.ensures.cases) (noted_gains c.args.self.now.notes note c.requires)
