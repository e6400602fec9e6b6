use Rattle.std.proofs.Common.{rules, ◌≡◌, ◌+◌, ◌++◌, ◌∷◌, [], List, None, Some, ℕ, take}
use Rattle.read_set.specs.Notes.{note_of}
use Rattle.read_set.specs.declared.notes.Note.{Note}
use Rattle.read_set.proofs.Keeping.{fresh-at}
use Rattle.why_lines.proofs.Knowing.{known_none, known_put, so_far}
use Rattle.why_lines.proofs.base.read_records.Goals.{in-Some+in_ok-clone+in_ok-put, in_default}
use Rattle.why_lines.proofs.base.read_records.Goals as goal

pub loop-note-preserved : goal.loop-note-preserved
loop-note-preserved c =
    let notes : List Note = c.args.notes.now in
    let i : ℕ = c.loop-note.note-index in
    let note : Note = c.note-item.result in
    let fresh : note_of (take i notes) note.key ≡ None = fresh-at notes i note c.requires c.loop-note-test.true c.note-item.is in
    let next : take (i + 1) notes ≡ take i notes ++ note ∷ [] = so_far notes i note c.loop-note-test.true c.note-item.is in
    elim c.match-branch-2.branch [
      | in-Some+in_ok-clone+in_ok-put w ↦
          let is : note.found ≡ Some w.in-Some.found = search rules in
          rw (w.records-is, next)
          (known_put (take i notes) note c.loop-note.records w.put.new.self w.in_ok-clone.field-0 w.in-Some.found fresh w.in_ok-clone.ensures.cases is w.in_ok-put.ensures.put c.loop-note.invariant)
      | in_default w ↦
          let is : note.found ≡ None = search rules in
          rw (w.records-is, next) (known_none (take i notes) note c.loop-note.records fresh is c.loop-note.invariant)
    ]
