use Rattle.std.proofs.Common.{◌≡◌, drop}
use Rattle.std.specs.List.{list_all}
use Rattle.circ_policy.proofs.closed.not_all.Given as goal

-- what is left decides
abbrev pub invariant-loop-flag : goal.invariant-loop-flag
invariant-loop-flag l = list_all (λ b. b) (drop l.flag-index l.flags) ≡ list_all (λ b. b) l.flags
