use mathlib.Core.List.{not-mem-nil}
use Rattle.speculate.proofs.driving.foreseen.Goals as goal

-- a plan's name lives as long as any place
pub perform-requires-lives-S-Source-4 : goal.perform-requires-lives-S-Source-4
perform-requires-lives-S-Source-4 g c κs within = λ a m. absurd (not-mem-nil (c.type_bounds.static-J a m))
