use Rattle.std.proofs.Common.{map}
use Rattle.journal_table.specs.Readings.{reading_at}
use Rattle.read_set.specs.Plans.{Planned}
use Rattle.read_set.proofs.PlanFits.{bare-fits}
use Rattle.read_set.proofs.plan.Plan.take_base.Goals as goal

pub invariant_of-self : goal.invariant_of-self
invariant_of-self c =
    let inside = c.self.inside in
    let plan : Planned = record { policy = inside.policy; base = inside.base; first = inside.first; readings = map reading_at inside.readings; deeds = inside.deeds } in
    rw c.take.ensures.left (c.self.invariant.0, c.self.invariant.1, bare-fits plan c.self.invariant.2)
