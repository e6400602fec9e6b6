use mathlib.Core.List.{not-mem-nil}
use Rattle.tests_of_runs.proofs.steps.try_begin.Goals as goal

-- a plan's name lives as long as any place
pub drop-held-requires-lives-T-Destruct : goal.drop-held-requires-lives-T-Destruct
drop-held-requires-lives-T-Destruct g c κs within = λ a m. absurd (not-mem-nil (c.type_bounds.static-J a m))
