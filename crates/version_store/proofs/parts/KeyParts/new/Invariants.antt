use Rattle.version_store.proofs.Hashed.{AreBare}
use Rattle.version_store.proofs.parts.KeyParts.new.Given as goal

abbrev pub invariant-loop-i : goal.invariant-loop-i
invariant-loop-i l = AreBare l.parts.items
