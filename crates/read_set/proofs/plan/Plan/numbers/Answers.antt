use Rattle.std.proofs.Common.{map}
use Rattle.journal_table.specs.Readings.{reading_at}
use Rattle.read_set.proofs.Kept.{replay-keeps}
use Rattle.read_set.specs.Plans.{Planned}
use Rattle.read_set.proofs.plan.Plan.numbers.Goals as goal

pub returns-clause-coherent : goal.returns-clause-coherent
returns-clause-coherent c =
    let inside = c.self.inside in
    let plan : Planned = record { policy = inside.policy; base = inside.base; first = inside.first; readings = map reading_at inside.readings; deeds = inside.deeds } in
    rw (← c.self.view_is) (replay-keeps plan c.self.invariant.2)
