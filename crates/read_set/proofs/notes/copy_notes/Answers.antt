use Rattle.read_set.proofs.Keeping.{fresh-at}
use Rattle.read_set.proofs.notes.copy_notes.Goals as goal

pub add-requires : goal.add-requires
add-requires c = rw (c.in_ok-copy.ensures, c.loop-note.invariant) (fresh-at c.args.notes.now c.loop-note.note-index c.note-item.result c.requires c.loop-note-test.true c.note-item.is)
