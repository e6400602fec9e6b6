-- What a line has read: at each key a record or none, under its name, in the order of reading.
use Rattle.std.specs.Prelude.{List, Option, map, find}
use Rattle.std.specs.BTreeMap.{is_at}
use Rattle.std.specs.List.{IsDistinct}
use Rattle.std.specs.Option.{option_map}
use Rattle.std.specs.Ordering.{eq_by_cmp}
use Rattle.circ_records.specs.Keys.{key_cmp}
use Rattle.circ_records.specs.declared.key.Key.{Key}
use Rattle.read_set.specs.Maps.{Part}
use Rattle.read_set.specs.declared.notes.Note.{Note}

-- the note of a key
abbrev pub note_of : List Note → Key → Option Note
note_of notes k = find (λ n. is_at (key_cmp k) n.key) notes

-- what is known from notes
abbrev pub noted : List Note → Part
noted notes k = option_map (λ n. n.found) (note_of notes k)

-- each key is noted once
abbrev pub IsOnceEach : List Note → Type 0
IsOnceEach notes = IsDistinct (eq_by_cmp key_cmp) (map (λ n. n.key) notes)
