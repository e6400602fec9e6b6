use Rattle.std.proofs.Common.{◌-◌}
use Rattle.log_pairs.specs.Devices.Places.{NonePasses, passes}
use Rattle.log_pairs.proofs.pairing.last.Given as goal

-- none of those after these passes
abbrev pub invariant-loop-turn : goal.invariant-loop-turn
invariant-loop-turn l = NonePasses (passes l.wanted l.connection l.response) l.waiting.items (l.before - l.turn) l.before
