use Rattle.read_set.specs.Maps.{Agrees}
use Rattle.read_set.specs.Notes.{noted}
use Rattle.read_set.proofs.Keeping.{true-agrees}
use Rattle.message_meaning.proofs.needs.need_on.Goals as goal

pub end-requires-clause-order : goal.end-requires-clause-order
end-requires-clause-order g c = rw (← c.requires.plan, c.requires.notes) c.in-Ok.ensures.order

pub end-requires-clause-settles : goal.end-requires-clause-settles
end-requires-clause-settles g c = λ M true.
    let agrees : Agrees (noted g.N.NotesName.notes) M = rw (← c.requires.notes) (true-agrees c.args.notes.now M true) in
    rw (← c.requires.plan) (c.in-Ok.ensures.gives M agrees)
