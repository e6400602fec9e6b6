use Rattle.line_origins.proofs.Seeing.{agrees_seen}
use Rattle.line_origins.proofs.tracer.carry.Goals as goal

pub returns-in-Ok : goal.returns-in-Ok
returns-in-Ok g c = λ M same answer.
    c.in-Ok.ensures.means M (agrees_seen g.N.ShelfName.records g.N.ShelfName.writers c.carried_of.new.source.notes M c.carried_of.new.source.seen same) answer
