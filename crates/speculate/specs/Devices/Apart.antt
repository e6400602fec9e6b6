-- For proofs alone: a set whose positions are those of a tree, and one that the tree lacks.
use Rattle.std.specs.Prelude.{◌≡◌, ℕ, ◌<◌, Bool, true, false, List, length, slice_set, slice_index_or, Option, Some, None}

abbrev pub with_apart : List Bool → Option ℕ → List Bool
with_apart flags None = flags
with_apart flags (Some p) = slice_set flags p true

abbrev pub IsApart : List Bool → Option ℕ → Type 0
IsApart flags None = Unit {0}
IsApart flags (Some p) = (p < length flags) × (slice_index_or flags p false ≡ false)
