use mathlib.Core.List.{not-mem-nil}
use Rattle.tests_of_runs.proofs.threads.hold_one.Goals as goal

-- a plan's name lives as long as any place
pub drop-shared-requires-3-lives-T-Destruct : goal.drop-shared-requires-3-lives-T-Destruct
drop-shared-requires-3-lives-T-Destruct g c κs within = λ a m. absurd (not-mem-nil (c.type_bounds.static-J a m))
