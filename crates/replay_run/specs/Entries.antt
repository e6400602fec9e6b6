-- Maps and their entries.
use Rattle.std.specs.Prelude.{◌≡◌, map}
use Rattle.std.specs.List.Sorted.{IsStrictlySortedBy}
use Rattle.circ_records.specs.Keys.{key_cmp}
use Rattle.circ_records.specs.Records.{Entries, record_at}
use Rattle.circ_records.specs.declared.key.Key.{Key}
use Rattle.read_set.specs.Maps.{Map}

-- the entries of a map: the keys that have a record, rising, each with its record
pub record AreEntries (M : Map) (entries : Entries) : Type 0 where
  pub rising : IsStrictlySortedBy key_cmp (map (λ e. e.0) entries)
  pub same : (k : Key) → record_at entries k ≡ M k
