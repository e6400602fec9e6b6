-- Files that are written: each under a temporary path until it is complete.
use Rattle.std.specs.Prelude.{◌≡◌, ◌++◌, ◌∷◌, ◌⊎◌, ℕ, [], Err, List, Ok, Option, codes, flat_map}
use Rattle.outside.specs.Events.{Create, Event, Remove, Rename, after}
use Rattle.outside.specs.declared.failure.Failure.{Failure}

-- the path of a file in a folder
abbrev pub in_folder : List ℕ → List ℕ → List ℕ
in_folder folder name = folder ++ (codes "/" ++ name)

-- a file that is to be written: its path, its temporary path until it is complete, and its bytes
pub record FilePlace : Type 0 where
  pub path : List ℕ
  pub part : List ℕ
  pub text : List ℕ

-- a file of this name, with these bytes, in a folder; the temporary path is there too, and ends in
-- `.part`
abbrev pub place : List ℕ → List ℕ × List ℕ → FilePlace
place folder file = record { path = in_folder folder file.0; part = in_folder folder (file.0 ++ codes ".part"); text = file.1 }

-- A file is written: it is created under its temporary path, and renamed.
abbrev pub written : FilePlace → List Event
written p = Create p.part p.text (Ok tt) ∷ Rename p.part p.path (Ok tt) ∷ []

-- all files are written, in this order
abbrev pub all_written : List FilePlace → List Event
all_written places = flat_map written places

-- A file can't be created, or can't be renamed, for this reason; then the removal of its temporary
-- file is asked for.
abbrev pub FailsToPlace : FilePlace → Failure → List Event → Type 0
FailsToPlace p failure events =
    (events ≡ Create p.part p.text (Err failure) ∷ Remove p.part ∷ [])
    ⊎ (events ≡ Create p.part p.text (Ok tt) ∷ Rename p.part p.path (Err failure) ∷ Remove p.part
    ∷ [])

-- The first files are written, in this order, and then the file of this path fails, for this
-- reason.
abbrev pub StopsWriting : List FilePlace → List ℕ → Failure → List Event → Type 0
StopsWriting places path failure events =
    (before : List FilePlace) × (p : FilePlace) × (rest : List FilePlace) × (failed : List Event)
    × (places ≡ before ++ p ∷ rest) × (events ≡ all_written before ++ failed)
    × FailsToPlace p failure failed × (path ≡ p.path)

-- one file fails, and its temporary file isn't removed yet
abbrev pub StopsMaking : FilePlace → Failure → Option (List Event) → Option (List Event) → Type 0
StopsMaking p failure old new =
    (new ≡ after (Create p.part p.text (Err failure) ∷ []) old)
    ⊎ (new ≡ after (Create p.part p.text (Ok tt) ∷ Rename p.part p.path (Err failure) ∷ []) old)
