use Rattle.std.proofs.Common.{◌≡◌, ◌++◌, drop, take}
use Rattle.version_store.specs.Devices.Positions.{all_marked}
use Rattle.version_store.proofs.entry_list.mark_all.Given as goal

-- the first are suspect
abbrev pub invariant-loop-i : goal.invariant-loop-i
invariant-loop-i g l = l.entries ≡ all_marked (take l.i l.initial.entries) ++ drop l.i l.initial.entries
