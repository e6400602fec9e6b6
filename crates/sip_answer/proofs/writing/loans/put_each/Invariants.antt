use Rattle.std.proofs.Common.{◌≡◌, ◌++◌, take}
use Rattle.sip_answer.specs.Parts.{each}
use Rattle.sip_answer.proofs.writing.loans.put_each.Given as goal

-- the fields of the items so far are written
abbrev pub invariant-loop-item : goal.invariant-loop-item
invariant-loop-item l = l.out.items ≡ l.initial.out.items ++ each l.id (take l.item-index l.items)
