use Rattle.std.proofs.Common.{drop}
use Rattle.version_store.specs.Entries.{keyed}
use Rattle.version_store.proofs.Walks.{Went, IsOwn}
use Rattle.version_store.proofs.line.LineEntries.left.Given as goal

-- the entries so far are of the attempt
abbrev pub invariant-loop-i : goal.invariant-loop-i
invariant-loop-i g l = Went (IsOwn l.attempt) (keyed l.self-inside.entries) (drop l.i (keyed l.self-inside.entries))
