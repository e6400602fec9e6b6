-- For proofs alone: each key is noted once, and beside the notes is the position of each key's note that isn't among the first.
use Rattle.std.specs.Prelude.{◌≡◌, ℕ, ◌<◌, List, [], length, take, slice_get, Option, Some, None, Box}
use Rattle.std.specs.Global.{Global}
use Rattle.std.specs.BTreeMap.{BTreeMap, is_at}
use Rattle.std.specs.Map.{lookup}
use Rattle.circ_records.specs.Keys.{key_cmp}
use Rattle.circ_records.specs.declared.key.Key.{Key}
use Rattle.read_set.specs.Notes.{note_of, IsOnceEach}
use Rattle.read_set.specs.declared.notes.Note.{Note}

-- the positions in a map, where there is one
abbrev pub positions_in : Option (Box (BTreeMap Key ℕ) Global) → List (Key × ℕ)
positions_in None = []
positions_in (Some map) = map.value.entries

-- the first notes, which are looked through one by one
abbrev pub first : List Note → List Note
first notes = take 8 notes

-- the position of a key's note; a key without one has its note among the first, or none
abbrev pub IsPosition : List Note → Key → Option ℕ → Type 0
IsPosition notes k None = note_of notes k ≡ note_of (first notes) k
IsPosition notes k (Some i) = (i < length notes) × (slice_get notes i ≡ note_of notes k)

pub record AreNoted (notes : List Note) (positions : List (Key × ℕ)) : Type 0 where
  pub once : IsOnceEach notes
  pub at : (k : Key) → IsPosition notes k (lookup (is_at (key_cmp k)) positions)
