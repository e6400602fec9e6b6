use Rattle.read_set.proofs.Keeping.{true-agrees}
use Rattle.worker_pool.proofs.workers.read_line.Goals as goal

pub new-version-requires : goal.new-version-requires
new-version-requires g c = λ M true. rw (← c.plan.ensures) (c.in-Ok.ensures.gives M (true-agrees c.perform.new.source.notes M true))
