-- Which lines have an entry at a key, as the index has it.
use Rattle.std.specs.Prelude.{◌≡◌, ℕ, ◌*◌, ◌/◌, ◌%◌, ◌^◌, ◌<◌, Bool, true, false, List, Option, Some, None, cond, length, option_and_then, slice_get}
use Rattle.std.specs.Option.{option_flatten}
use Rattle.std.specs.BTreeMap.{BTreeMap, get}
use Rattle.std.specs.List.{list_any}
use Rattle.std.specs.Ordering.{nat_cmp, eq_by_cmp}
use Rattle.sip_reader.specs.Devices.Hashes.{id_hash}
use Rattle.circ_records.specs.Keys.{id_of, key_cmp}
use Rattle.circ_records.specs.declared.key.Key.{Key}

-- whether a line is one of a column
abbrev pub has : List ℕ → ℕ → Bool
has column n = list_any (λ m. eq_by_cmp nat_cmp m n) column

abbrev pub in_column : Option (List ℕ) → ℕ → Bool
in_column None n = false
in_column (Some column) n = has column n

-- some of the keys, each with its column
abbrev pub Part : Type 0
Part = BTreeMap Key (List ℕ)

-- whether a line has an entry at a key, by a part of the index
abbrev pub in_part : Part → Key → ℕ → Bool
in_part part k n = in_column (get key_cmp part k) n

-- the position, among this many, that a key's hash chooses
abbrev pub position_in : ℕ → Key → ℕ
position_in count k = id_hash (id_of k) * count % 2 ^ 64 / 2 ^ 32

-- the column of a key in the part at a position
abbrev pub column_at : List Part → ℕ → Key → Option (List ℕ)
column_at parts i k = option_and_then (λ part. get key_cmp part k) (slice_get parts i)

-- whether a line has an entry at a key, by the parts
abbrev pub in_parts : List Part → Key → ℕ → Bool
in_parts parts k n = in_column (column_at parts (position_in (length parts) k) k) n

-- the key that is in the slot, if one is, and its column
abbrev pub Slot : Type 0
Slot = Option (Key × List ℕ)

-- the slot that a key's hash chooses
abbrev pub slot_of : List Slot → Key → Slot
slot_of slots k = option_flatten (slice_get slots (position_in (length slots) k))

-- whether a line has an entry at a key, by the key's slot: the parts have it only if the slot is
-- another's
abbrev pub by_slot : Slot → (Key → ℕ → Bool) → Key → ℕ → Bool
by_slot None others k n = false
by_slot (Some p) others k n = cond (eq_by_cmp key_cmp p.0 k) (has p.1 n) (others k n)

-- f, but w at the key and the line
abbrev pub with_at : Key → ℕ → Bool → (Key → ℕ → Bool) → Key → ℕ → Bool
with_at k n w f q m = cond (eq_by_cmp key_cmp k q) (cond (eq_by_cmp nat_cmp n m) w (f q m)) (f q m)

-- the greatest line below that has an entry
abbrev pub IsLatest : (ℕ → Bool) → ℕ → Option ℕ → Type 0
IsLatest f below None = (m : ℕ) → m < below → f m ≡ false
IsLatest f below (Some n) = (n < below) × (f n ≡ true) × ((m : ℕ) → n < m → m < below → f m ≡ false)
