-- A tree over flags: each node says whether a flag below it is set.
use Rattle.std.specs.Prelude.{◌≡◌, ℕ, ◌+◌, ◌*◌, ◌-◌, ◌^◌, ◌<◌, ◌≤◌, ◌≢◌, Bool, true, false, ◌||◌, List, length, nat_lt, slice_index_or, if◌then◌else◌, Option, Some, None}

-- what is at a node: the nodes come first, then the flags
abbrev pub node_at : List Bool → List Bool → ℕ → Bool
node_at flags nodes i =
    if nat_lt i (length nodes) then slice_index_or nodes i false
    else slice_index_or flags (i - length nodes) false

-- the content of a node, from the two nodes below
abbrev pub joined : List Bool → List Bool → ℕ → Bool
joined flags nodes i = node_at flags nodes (2 * i) || node_at flags nodes (2 * i + 1)

-- each node but one has the content that those below determine
abbrev pub AllBut : List Bool → List Bool → ℕ → Type 0
AllBut flags nodes n =
    (i : ℕ) → 1 ≤ i → i < length nodes → i ≢ n → slice_index_or nodes i false ≡ joined flags nodes i

-- a power of two
abbrev pub IsPower : ℕ → Type 0
IsPower n = (h : ℕ) × (n ≡ 2 ^ h)

-- the nodes cover all flags, and each has the content that those below determine
pub record IsTree (flags nodes : List Bool) : Type 0 where
  pub power : IsPower (length nodes)
  pub covers : length flags ≤ length nodes
  pub few : length nodes ≤ 2000000
  pub each : AllBut flags nodes 0

-- the least flag from a position on that is set
abbrev pub IsLeastFrom : List Bool → ℕ → Option ℕ → Type 0
IsLeastFrom flags from None = (p : ℕ) → from ≤ p → slice_index_or flags p false ≡ false
IsLeastFrom flags from (Some n) =
    (from ≤ n) × (slice_index_or flags n false ≡ true)
    × ((p : ℕ) → from ≤ p → p < n → slice_index_or flags p false ≡ false)
