use Rattle.std.proofs.Common.{◌≡◌, take}
use Rattle.circ_records.proofs.holds.copy_holds.Given as goal

abbrev pub invariant-loop-hold : goal.invariant-loop-hold
invariant-loop-hold l = l.copies.items ≡ take l.hold-index l.holds
