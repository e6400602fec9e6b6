-- Calls of the outside, each with its result.
use Rattle.std.specs.Prelude.{◌≡◌, ◌++◌, ◌∷◌, ℕ, [], ⊤, Bool, Err, List, None, Ok, Option, Result, Some}
use Rattle.std.specs.declared.alloc.Global.{Global}
use Rattle.std.specs.declared.vec.Vec.{Vec}
use Rattle.outside.specs.declared.failure.Failure.{Failure}
use Rattle.outside.specs.declared.file_id.FileId.{FileId}

pub data Event : Type 0 where
  -- a path was looked up: the file that it leads to, or none (or it can't be looked up)
  Find : List ℕ → Option FileId → Event
  -- a file was read: its bytes, or why not
  Read : List ℕ → Result (List ℕ) Failure → Event
  -- a file was created at a path, with these bytes, or why not
  Create : List ℕ → List ℕ → Result ⊤ Failure → Event
  -- a file was moved from one path to another, or why not
  Rename : List ℕ → List ℕ → Result ⊤ Failure → Event
  -- the removal of a file was asked for; whether it failed isn't recorded
  Remove : List ℕ → Event
  -- this text was written to standard output: all of it, or not
  Print : List ℕ → Bool → Event
  -- this text was written to standard error: all of it, or not
  Tell : List ℕ → Bool → Event
  -- whether there is anything at this path, or why that isn't known
  Exists : List ℕ → Result Bool Failure → Event
  -- a folder was created, or why not
  MakeFolder : List ℕ → Result ⊤ Failure → Event
  -- the removal of a folder with its contents was asked for; whether it failed isn't recorded
  RemoveFolder : List ℕ → Event

-- a log with one more event at its end; a log that isn't known stays so
unfoldable pub noted : Event → Option (List Event) → Option (List Event)
noted event None = None
noted event (Some log) = Some (log ++ event ∷ [])

-- a log with these events added at its end, in their order
abbrev pub after : List Event → Option (List Event) → Option (List Event)
after [] log = log
after (event ∷ events) log = after events (noted event log)

-- the bytes that were read, or why not
abbrev pub answer_of : Result (Vec ℕ Global) Failure → Result (List ℕ) Failure
answer_of (Ok bytes) = Ok bytes.items
answer_of (Err failure) = Err failure

-- the new log is the old one with some events added, and P holds of these
abbrev pub Did : (List Event → Type 0) → Option (List Event) → Option (List Event) → Type 0
Did P old new = (events : List Event) × (new ≡ after events old) × P events
