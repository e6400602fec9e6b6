-- What the parts of `look` and `check` return: the line that looks, what it is to note, and what a
-- check compares.
use Rattle.std.specs.Prelude.{◌≡◌, ℕ, false, List, Option, Some, None, option_map}
use Rattle.circ_records.specs.declared.key.Key.{Key}
use Rattle.sip_answer.specs.declared.answer.Answer.{Answer}
use Rattle.read_set.specs.declared.notes.Name.{Name}
use Rattle.read_set.specs.declared.notes.Name.TheVariants as names
use Rattle.read_set.specs.declared.notes.Note.{Note}
use Rattle.version_store.specs.Entries.{Shown, shown}
use Rattle.version_store.specs.declared.entry.StoredEntry.{StoredEntry}
use Rattle.version_store.specs.declared.entry.Found.{Found}
use Rattle.version_store.specs.declared.table.Place.{Place}
use Rattle.board_steps.specs.Board.{Board, found, row_at}
use Rattle.board_steps.specs.Steps.{MayLook, Compares, Differs, stopped}
use Rattle.board_lines.specs.Notes.{contents_at}

-- an entry with its line, from what is stored
abbrev pub entry_shown : {J : Type 0} → ℕ × StoredEntry J → ℕ × Shown
entry_shown p = (p.0, shown p.1)

-- the name and the place of the visible entry
abbrev pub IsNameOf : {J : Type 0} → Option (ℕ × Shown) → Name → Option (Place J) → Type 0
IsNameOf None name place = (name ≡ names.Base) × (place ≡ None)
IsNameOf (Some p) name place =
    (p.1.suspect ≡ false) × (name ≡ names.Made p.1.attempt p.0)
    × (option_map contents_at place ≡ Some p.1.contents)

-- the stamp of the check, and how many notes it has compared
abbrev pub IsCheck : Board → ℕ → ℕ → Option (ℕ × ℕ) → Type 0
IsCheck b w n None =
    (notes : List Note) (answer : Option Answer) (t i : ℕ) → Compares b w n notes answer t i → ⊥
IsCheck b w n (Some c) =
    (notes : List Note) × (answer : Option Answer) × Compares b w n notes answer c.0 c.1

-- the i-th note is compared, and its name isn't that of the visible entry
abbrev pub IsOther : Board → ℕ → ℕ → ℕ → Name → Found → Type 0
IsOther b w n i noted now =
    (notes : List Note) × (answer : Option Answer) × (t : ℕ) × Compares b w n notes answer t i
    × (key : Key) × Differs b n notes i key noted now

-- the name of a note, and the name that a line sees at its key now
abbrev pub names_now : Board → ℕ → Key × Name → Name × Found
names_now b n note = (note.1, found (row_at b) n note.0)

-- the worker's line runs, and looks at some key
abbrev pub MayStop : Board → ℕ → ℕ → Type 0
MayStop b w n = (k : Key) × (notes : List Note) × MayLook b w k n notes

-- the attempt of the line ended
abbrev pub IsStopped : Board → ℕ → Board → Type 0
IsStopped old n new = new ≡ stopped old n
