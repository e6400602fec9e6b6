use Rattle.std.proofs.Common.{◌≡◌, take}
use Rattle.std.specs.BTreeMap.{is_at}
use Rattle.std.specs.Map.{lookup}
use Rattle.circ_records.specs.Keys.{key_cmp}
use Rattle.circ_records.specs.declared.key.Key.{Key}
use Rattle.line_origins.specs.Origins.{written_by}
use Rattle.line_origins.proofs.shelf.mark.Given as goal

-- the keys so far are marked
abbrev pub invariant-loop-entry : goal.invariant-loop-entry
invariant-loop-entry l =
    (k : Key) → lookup (is_at (key_cmp k)) l.writers.entries ≡ written_by (take l.entry-index l.writes) l.line (lookup (is_at (key_cmp k)) l.fn.writers.entries) k
