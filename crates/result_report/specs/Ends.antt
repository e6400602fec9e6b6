-- What is collected from the end of a run: exactly what that end gives, also where it is wrong.
use Rattle.std.specs.Prelude.{◌≡◌, ◌++◌, ℕ, List, length, map, None, if◌then◌else◌}
use Rattle.std.specs.BTreeMap.{is_at}
use Rattle.std.specs.List.{flat_map, list_any, range_with_len}
use Rattle.std.specs.List.Sorted.{IsStrictlySortedBy}
use Rattle.circ_records.specs.Keys.{key_cmp}
use Rattle.circ_records.specs.Records.{Entries, record_at}
use Rattle.circ_records.specs.declared.key.Key.{Key}
use Rattle.read_set.specs.Maps.{Map}
use Rattle.read_set.specs.Plans.{Planned}

-- the numbers of a plan's lines
abbrev pub numbers_of : Planned → List ℕ
numbers_of plan = range_with_len plan.first (length plan.readings)

-- the keys that a line wrote, without its attempts
abbrev pub keys_named : List (Key × ℕ) → List Key
keys_named entries = map (λ e. e.0) entries

abbrev pub lines_keys : (ℕ → List (Key × ℕ)) → List ℕ → List Key
lines_keys entered numbers = flat_map (λ line. keys_named (entered line)) numbers

-- the keys of the records before the first line, and those that the lines wrote
abbrev pub named_keys : Planned → (ℕ → List (Key × ℕ)) → List Key
named_keys plan entered = map (λ e. e.0) plan.base ++ lines_keys entered (numbers_of plan)

-- a map at these keys, and nothing elsewhere
abbrev pub only_at : List Key → Map → Map
only_at keys M k = if list_any (is_at (key_cmp k)) keys then M k else None

abbrev pub HasAt : List Key → Map → Entries → Type 0
HasAt keys M entries = (k : Key) → record_at entries k ≡ only_at keys M k

-- the records of a map at these keys, and no others, by their keys
pub record AreRecordsAt (keys : List Key) (M : Map) (entries : Entries) : Type 0 where
  pub rising : IsStrictlySortedBy key_cmp (map (λ e. e.0) entries)
  pub same : HasAt keys M entries
