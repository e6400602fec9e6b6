-- The files of a run.
use Rattle.std.specs.Prelude.{◌++◌, ◌∷◌, ℕ, [], Bool, List, codes, false, flat_map, map, string_bytes, true}
use Rattle.outside.specs.Files.{FilePlace, in_folder, place}
use Rattle.command_line.specs.declared.chosen.Options.{Options}
use Rattle.replay_run.specs.declared.inputs.Output.{Output}

-- The files that a run reads, in this order, and of each whether it may be missing.
abbrev pub files_of : Options → List (List ℕ × Bool)
files_of o =
    (string_bytes o.policy, false)
    ∷ (in_folder (string_bytes o.base) (codes "patrons.csv"), false)
    ∷ (in_folder (string_bytes o.base) (codes "items.csv"), false)
    ∷ (in_folder (string_bytes o.base) (codes "loans.csv"), false)
    ∷ (in_folder (string_bytes o.base) (codes "fees.csv"), false)
    ∷ (in_folder (string_bytes o.base) (codes "closed.csv"), false)
    ∷ (in_folder (string_bytes o.base) (codes "holds.csv"), true)
    ∷ (string_bytes o.journal, false) ∷ []

-- the files that a run writes, in this order, by their names, with their bytes
abbrev pub results_of : Output → List (List ℕ × List ℕ)
results_of o =
    (codes "patrons.csv", o.tables.patrons.items)
    ∷ (codes "items.csv", o.tables.items.items)
    ∷ (codes "loans.csv", o.tables.loans.items)
    ∷ (codes "fees.csv", o.tables.fees.items)
    ∷ (codes "closed.csv", o.tables.closed.items)
    ∷ (codes "holds.csv", o.tables.holds.items)
    ∷ (codes "answers.csv", o.answers.items)
    ∷ (codes "report.csv", o.report.items)
    ∷ (codes "passed.csv", o.passed.items) ∷ []

-- the same in the folder that gets them
abbrev pub places_of : List ℕ → Output → List FilePlace
places_of folder o = map (place folder) (results_of o)

-- their names
abbrev pub result_names : List (List ℕ)
result_names = codes "patrons.csv" ∷ codes "items.csv" ∷ codes "loans.csv" ∷ codes "fees.csv" ∷ codes "closed.csv" ∷ codes "holds.csv"
    ∷ codes "answers.csv" ∷ codes "report.csv" ∷ codes "passed.csv" ∷ []

-- the path of a file of a folder, and its temporary one
abbrev pub both_paths : List ℕ → List ℕ → List (List ℕ)
both_paths folder name = in_folder folder name ∷ in_folder folder (name ++ codes ".part") ∷ []

-- the paths that a run writes to in a folder
abbrev pub paths_in : List ℕ → List (List ℕ)
paths_in folder = flat_map (both_paths folder) result_names
