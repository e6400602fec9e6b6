use Rattle.std.proofs.Common.{◌≡◌, None, rules}
use Rattle.read_set.specs.Devices.Positions.{positions_in}
use Rattle.read_set.specs.Notes.{note_of}
use Rattle.read_set.proofs.Keeping.{noted-later}
use Rattle.read_set.proofs.notes.Notes.add_later.Goals as goal

pub invariant_of-self-in-Ok : goal.invariant_of-self-in-Ok
invariant_of-self-in-Ok c =
    let notes = c.self.inside.notes.items in
    let fresh : note_of notes c.args.note.key ≡ None = search rules in
    rw c.in_ok-push.ensures.items
    (noted-later notes c.args.note (positions_in c.self.inside.positions) (positions_in c.put_position.new.positions) c.in_ok-key.key c.len-position.result c.self.invariant fresh (search rules) (search rules) c.in-Ok.ensures.ok)
