-- For proofs alone: the notes of a line and the index of their keys, where both are in a box that
-- may be absent.
use Rattle.std.specs.Prelude.{List, [], Option, Some, None}
use Rattle.std.specs.BTreeSet.{BTreeSet}
use Rattle.std.specs.Global.{Box}
use Rattle.circ_records.specs.declared.key.Key.{Key}
use Rattle.board_lines.specs.declared.notes.NoteList.{NoteList}
use Rattle.board_lines.specs.declared.notes.PlaceNote.{PlaceNote}

-- the notes in a box; without one there are none
abbrev pub notes_in : {J : Type 0} → Option (Box (NoteList J)) → List (PlaceNote J)
notes_in None = []
notes_in (Some held) = held.value.notes.items

-- the index in a box, if there is one
abbrev pub index_in : {J : Type 0} → Option (Box (NoteList J)) → Option (Box (BTreeSet Key))
index_in None = None
index_in (Some held) = held.value.index
