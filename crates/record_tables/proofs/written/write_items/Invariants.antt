use Rattle.std.proofs.Common.{take}
use Rattle.record_tables.specs.Writing.{HoldsItems}
use Rattle.record_tables.proofs.written.write_items.Given as goal

-- what the entries so far have is written
abbrev pub invariant-loop-entry : goal.invariant-loop-entry
invariant-loop-entry l = HoldsItems (take l.entry-index l.entries) l.texts
