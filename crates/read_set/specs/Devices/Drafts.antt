-- For proofs alone: the records that a line has written so far, in a list or in a map.
use Rattle.std.specs.Prelude.{map}
use Rattle.std.specs.List.Sorted.{IsStrictlySortedBy}
use Rattle.circ_records.specs.Keys.{key_cmp}
use Rattle.circ_records.specs.Records.{Entries}
use Rattle.read_set.specs.declared.effect.ListOrMap.{ListOrMap}
use Rattle.read_set.specs.declared.effect.ListOrMap.TheVariants.{List, Map}

-- each key is below those after it
abbrev pub Rise : Entries → Type 0
Rise entries = IsStrictlySortedBy key_cmp (map (λ e. e.0) entries)

-- the records of a list or of a map
abbrev pub entries_in : ListOrMap → Entries
entries_in (List list) = list.items
entries_in (Map records) = records.entries
