use Rattle.std.proofs.Common.{◌≡◌, take}
use Rattle.read_set.proofs.sorted.map_of.Given as goal

abbrev pub invariant-loop-entry : goal.invariant-loop-entry
invariant-loop-entry l = l.map.entries ≡ take l.entry-index l.entries
