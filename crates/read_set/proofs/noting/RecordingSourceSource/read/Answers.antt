use Rattle.std.proofs.Common.{◌≡◌, None, ap, rules, sym, ◌∙◌}
use Rattle.read_set.specs.Asks.{Done}
use Rattle.read_set.specs.Notes.{note_of}
use Rattle.read_set.proofs.More.{asked_there, noted_gains}
use Rattle.read_set.proofs.noting.RecordingSourceSource.read.Goals as goal

pub returns-clause-gives : goal.returns-clause-gives
returns-clause-gives g c =
    let note = c.in-Some-2.note in
    let same : note.key ≡ c.args.key.now = search rules in
    let fresh : note_of c.args.self.now.notes note.key ≡ None = rw same (sym c.in_default.ensures) in
    rw (c.in_ok-add.ensures.ok, ← same) (asked_there c.args.self.now.notes note fresh ∙ ap Done (sym c.in_ok-copy.ensures))

pub returns-clause-keeps : goal.returns-clause-keeps
returns-clause-keeps g c =
    let note = c.in-Some-2.note in
    let same : note.key ≡ c.args.key.now = search rules in
    let fresh : note_of c.args.self.now.notes note.key ≡ None = rw same (sym c.in_default.ensures) in
    rw (c.in_ok-add.ensures.ok, ← same) (noted_gains c.args.self.now.notes note fresh)
