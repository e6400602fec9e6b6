use Rattle.std.proofs.Common.{◌≡◌, drop, map}
use Rattle.circ_policy.specs.Order.{is_among}
use Rattle.circ_policy.proofs.unknown.is_among.Given as goal

-- what is left decides
abbrev pub invariant-loop-one : goal.invariant-loop-one
invariant-loop-one l =
    is_among (map (λ k. k.now) (drop l.one-index l.known)) l.key ≡ is_among (map (λ k. k.now) l.known) l.key
