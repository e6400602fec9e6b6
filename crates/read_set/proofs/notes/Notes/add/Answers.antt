use Rattle.std.proofs.Common.{◌≡◌, ◌<◌, None, arith, length, rules}
use Rattle.read_set.specs.Devices.Positions.{positions_in}
use Rattle.read_set.specs.Notes.{note_of}
use Rattle.read_set.proofs.Keeping.{noted-first}
use Rattle.read_set.proofs.notes.Notes.add.Goals as goal

pub invariant_of-self-2 : goal.invariant_of-self-2
invariant_of-self-2 c =
    let notes = c.self.inside.notes.items in
    let fresh : note_of notes c.args.note.key ≡ None = search rules in
    let short : length notes < 8 = omega arith in
    rw (c.in_ok-push.ensures.items, c.in_ok-make_first_room.ensures) (noted-first notes c.args.note (positions_in c.self.inside.positions) c.self.invariant fresh short)
