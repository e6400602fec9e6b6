use Rattle.std.proofs.Common.{◌≡◌}
use Rattle.read_set.proofs.effect.listed.Given as goal

abbrev pub invariant-loop-key : goal.invariant-loop-key
invariant-loop-key l = l.entries.items ≡ l.yielded
