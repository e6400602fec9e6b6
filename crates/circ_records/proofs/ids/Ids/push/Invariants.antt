use Rattle.std.proofs.Common.{◌≡◌, take}
use Rattle.circ_records.proofs.ids.Ids.push.Given as goal

abbrev pub invariant-loop-own : goal.invariant-loop-own
invariant-loop-own l = l.longer.items ≡ take l.own-index l.ids
