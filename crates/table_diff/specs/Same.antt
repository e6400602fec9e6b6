-- When two sides of a table are the same, except for names that its keeper made.
use Rattle.std.specs.Prelude.{◌≡◌, ◌<◌, ◌≤◌, [], ℕ, Bool, List, Some, false, true, length}
use Rattle.std.specs.List.{AllByRecursion}
use Rattle.table_diff.specs.Rows.{RowTexts, alone, copies, named, value_at}

-- a row has in each column what the other side's row of its name has, where there is one
abbrev pub IsLike : List (List ℕ) → List RowTexts → RowTexts → Type 0
IsLike columns others row =
    (other : RowTexts) → named others row.name ≡ Some other → (place : ℕ) → place < length columns
    → value_at place row ≡ value_at place other

-- the other side has each row: by its name; or, where names are made, it has as many of other names
-- that say the same
abbrev pub HasEach : List (List ℕ) → Bool → List RowTexts → List RowTexts → Type 0
HasEach columns false rows others = alone rows others ≡ []
HasEach columns true rows others =
    (text : List ℕ) → copies columns text (alone rows others)
    ≤ copies columns text (alone others rows)

pub record IsSame (columns : List (List ℕ)) (renamed : Bool) (left right : List RowTexts) : Type 0 where
  pub values : AllByRecursion (IsLike columns right) left
  pub left_rows : HasEach columns renamed left right
  pub right_rows : HasEach columns renamed right left
