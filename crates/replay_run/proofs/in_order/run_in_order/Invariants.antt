use Rattle.std.proofs.Common.{◌≡◌, ◌⊎◌, ◌+◌, ◌*◌, ◌/◌, length}
use Rattle.replay_run.specs.InOrder.{IsUnderWay, reached}
use Rattle.replay_run.proofs.in_order.run_in_order.Given as goal

abbrev pub invariant-loop : goal.invariant-loop
invariant-loop g l =
    IsUnderWay g.J.PlanName.plan l.journal l.run × ((reached l.run ≡ length g.J.PlanName.plan.readings) ⊎ (reached l.run ≡ l.counter * 4096))
    × (l.end ≡ length g.J.PlanName.plan.readings / 4096 + 1)
