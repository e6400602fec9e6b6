-- The records of a map, by their keys.
use Rattle.std.specs.Prelude.{List, Option, map}
use Rattle.std.specs.BTreeMap.{is_at}
use Rattle.std.specs.Map.{lookup}
use Rattle.std.specs.List.Sorted.{IsStrictlySortedBy}
use Rattle.circ_records.specs.Keys.{key_cmp}
use Rattle.circ_records.specs.declared.key.Key.{Key}
use Rattle.circ_records.specs.declared.record.Record.{Record}

-- the entries of a map: its keys and their records, the keys rising
abbrev pub Entries : Type 0
Entries = List (Key × Record)

-- the record that a map has at a key
abbrev pub record_at : Entries → Key → Option Record
record_at entries key = lookup (is_at (key_cmp key)) entries

-- the keys of a map rise
abbrev pub AreRising : Entries → Type 0
AreRising entries = IsStrictlySortedBy key_cmp (map (λ e. e.0) entries)
