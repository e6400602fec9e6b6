use Rattle.std.proofs.Common.{◌≡◌}
use Rattle.version_store.specs.Entries.{no_rows}
use Rattle.version_store.proofs.store.no_lines.Given as goal

abbrev pub invariant-loop-i : goal.invariant-loop-i
invariant-loop-i g l = l.rows.items ≡ no_rows l._i
