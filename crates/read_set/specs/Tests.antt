-- Tests in their order, each with what it says if it holds.
use Rattle.std.specs.Prelude.{Bool, List, [], ◌∷◌, Option, Some, None, if◌then◌else◌}

-- what the first that holds says; none if none holds
abbrev pub first_of : {A : Type 0} → List (A × Bool) → Option A
first_of [] = None
first_of (test ∷ more) = if test.1 then Some test.0 else first_of more

-- the same; if none holds, what comes after them
abbrev pub first_or : {A : Type 0} → List (A × Bool) → A → A
first_or [] otherwise = otherwise
first_or (test ∷ more) otherwise = if test.1 then test.0 else first_or more otherwise
