use Rattle.std.proofs.Common.{sym}
use Rattle.read_set.specs.Maps.{Agrees}
use Rattle.read_set.specs.Notes.{noted}
use Rattle.line_origins.proofs.tracer.look.Goals as goal

pub returns-in-Ok-clause-asked : goal.returns-in-Ok-clause-asked
returns-in-Ok-clause-asked g c = λ k. rw c.into_notes.ensures.notes (rw c.new-source.ensures at c.perform.ensures.keeps.asked tt k)

pub returns-in-Ok-clause-all : goal.returns-in-Ok-clause-all
returns-in-Ok-clause-all g c = rw c.into_notes.ensures.notes (_, c.in-Ok.ensures.order)

pub returns-in-Ok-clause-answer : goal.returns-in-Ok-clause-answer
returns-in-Ok-clause-answer g c = λ M a.
    let agrees : Agrees (noted c.perform.new.source.notes) M = rw (← c.into_notes.ensures.notes) a in
    sym (c.in-Ok.ensures.gives M agrees).1
