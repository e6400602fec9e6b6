-- For proofs alone: how the lines of a column are stored, which rise, and the position of a line
-- among them.
use Rattle.std.specs.Prelude.{◌≡◌, ℕ, ◌<◌, ◌≤◌, List, [], ◌∷◌, ◌++◌, Option, Some, None, length, slice_index_or}
use Rattle.std.specs.List.{AllPairs}

-- each line is below those after it
abbrev pub Rising : List ℕ → Type 0
Rising column = AllPairs (λ m n. m < n) column

abbrev pub lines_of : Option ℕ → List ℕ → List ℕ
lines_of None older = []
lines_of (Some newest) older = older ++ newest ∷ []

abbrev pub IsColumn : Option ℕ → List ℕ → Type 0
IsColumn None older = older ≡ []
IsColumn (Some newest) older = Rising (older ++ newest ∷ [])

-- the line is at the position
pub record StandsAt (column : List ℕ) (line i : ℕ) : Type 0 where
  pub within : i < length column
  pub same : slice_index_or column i 0 ≡ line

-- it isn't there, and goes to the position
pub record GoesTo (column : List ℕ) (line i : ℕ) : Type 0 where
  pub within : i ≤ length column
  pub below : (j : ℕ) → j < i → slice_index_or column j 0 < line
  pub above : (j : ℕ) → i ≤ j → j < length column → line < slice_index_or column j 0

-- the first `count` lines are below the line, and no other
pub record AreBelow (column : List ℕ) (line count : ℕ) : Type 0 where
  pub within : count ≤ length column
  pub below : (j : ℕ) → j < count → slice_index_or column j 0 < line
  pub rest : (j : ℕ) → count ≤ j → j < length column → line ≤ slice_index_or column j 0
