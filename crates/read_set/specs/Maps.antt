-- The records as they are at a moment, as a whole map.
use Rattle.std.specs.Prelude.{◌≡◌, Option, Some}
use Rattle.std.specs.Option.{option_or}
use Rattle.circ_records.specs.Records.{Entries, record_at}
use Rattle.circ_records.specs.declared.key.Key.{Key}
use Rattle.circ_records.specs.declared.record.Record.{Record}

-- each key has a record or none
abbrev pub Map : Type 0
Map = Key → Option Record

-- a map with writes put over it
abbrev pub put : Entries → Map → Map
put writes M k = option_or (record_at writes k) (M k)

-- what is known of a map: at a key nothing, the record there, or that there is none
abbrev pub Part : Type 0
Part = Key → Option (Option Record)

-- a map agrees with it
abbrev pub Agrees : Part → Map → Type 0
Agrees has M = (k : Key) (r : Option Record) → has k ≡ Some r → M k ≡ r

-- What is known stays; more may be added.
abbrev pub Grows : Part → Part → Type 0
Grows old new = (k : Key) (r : Option Record) → old k ≡ Some r → new k ≡ Some r
