-- Ids, and lists of ids.
use Rattle.std.specs.Prelude.{ℕ, Bool, true, false, not, List, [], ◌∷◌, filter}
use Rattle.std.specs.List.{list_any}
use Rattle.std.specs.Ordering.{nat_cmp, eq_by_cmp}
use Rattle.std.specs.Cmp.Lexicographic.{slice_cmp}

-- whether two ids are one
abbrev pub same : List ℕ → List ℕ → Bool
same a b = eq_by_cmp (slice_cmp nat_cmp) a b

-- whether an id is in a list
abbrev pub has_id : List ℕ → List (List ℕ) → Bool
has_id id ids = list_any (λ other. same other id) ids

-- the list without an id, at each of its positions
abbrev pub without : List ℕ → List (List ℕ) → List (List ℕ)
without id ids = filter (λ other. not (same other id)) ids

-- the list without each id of another list
abbrev pub without_all : List (List ℕ) → List (List ℕ) → List (List ℕ)
without_all gone ids = filter (λ other. not (has_id other gone)) ids

-- whether a list isn't empty
abbrev pub is_any : List (List ℕ) → Bool
is_any [] = false
is_any (id ∷ more) = true
