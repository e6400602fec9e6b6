-- The index has the lines that have an entry at a key, and no other.
use Rattle.std.specs.Prelude.{◌≡◌, ℕ, Bool, is_some}
use Rattle.std.specs.FinMap.{get}
use Rattle.circ_records.specs.declared.key.Key.{Key}
use Rattle.version_store.specs.Entries.{Store, line_at}
use Rattle.version_store.specs.Index.{by_slot, in_parts, slot_of}
use Rattle.version_store.specs.declared.index.KeyIndex.{KeyIndex}

-- whether a line has an entry at a key
abbrev pub at : KeyIndex → Key → ℕ → Bool
at index k n = by_slot (slot_of index.slots.items k) (in_parts index.others.parts.items) k n

pub record IsIndexed (index : KeyIndex) (s : Store) : Type 0 where
  pub each : (k : Key) (n : ℕ) → at index k n ≡ is_some (get (line_at s n) k)
