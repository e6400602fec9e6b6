-- For proofs alone: a node and the flags below it, counted through all rows of the tree, the flags'
-- row being the last.
use Rattle.std.specs.Prelude.{◌≡◌, ℕ, zero, suc, ◌+◌, ◌*◌, ◌<◌, ◌≤◌, Bool, true, false, List, length, slice_index_or}
use Rattle.speculate.specs.Trees.{node_at, IsPower}

-- the first number below a node, a number of rows down
abbrev pub below : ℕ → ℕ → ℕ
below i zero = i
below i (suc k) = below (2 * i) k

-- the flags are this many rows below the node
pub record IsAbove (nodes : List Bool) (i k : ℕ) : Type 0 where
  pub low : length nodes ≤ below i k
  pub high : below (i + 1) k ≤ 2 * length nodes

-- a node of a row that has a power of two of nodes: the flags are this many rows below it, width of
-- them, from the first on
pub record IsInRow (nodes : List Bool) (i width first : ℕ) : Type 0 where
  pub rows : ℕ
  pub row : ℕ
  pub power : IsPower row
  pub all : length nodes ≡ below row rows
  pub wide : width ≡ below 1 rows
  pub at : first ≡ below i rows
  pub above : IsAbove nodes i rows

-- no flag is set from a number on, up to another
abbrev pub NoneSet : List Bool → List Bool → ℕ → ℕ → Type 0
NoneSet flags nodes from to =
    (p : ℕ) → from ≤ length nodes + p → length nodes + p < to → slice_index_or flags p false ≡ false

-- a set node before which no flag is set, from a position on
pub record IsNext (flags nodes : List Bool) (from i : ℕ) : Type 0 where
  pub rows : ℕ
  pub above : IsAbove nodes i rows
  pub set : node_at flags nodes i ≡ true
  pub past : length nodes + from ≤ below i rows
  pub before : NoneSet flags nodes (length nodes + from) (below i rows)

-- a node is set; 0 is none
abbrev pub IsSet : List Bool → ℕ → Type 0
IsSet nodes i = 1 ≤ i → slice_index_or nodes i false ≡ true
