use Rattle.std.proofs.Common.{◌≡◌, drop}
use Rattle.circ_records.specs.Devices.Positions.{position_from}
use Rattle.read_set.proofs.sorted.position_of.Given as goal

abbrev pub invariant-loop-i : goal.invariant-loop-i
invariant-loop-i l = position_from l.i l.key (drop l.i l.entries) ≡ position_from 0 l.key l.entries
