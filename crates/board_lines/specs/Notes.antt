-- What a line has noted. A record is given by a place: it is what the version there writes; without
-- a place it is the base's.
use Rattle.std.specs.Prelude.{◌≡◌, ◌↔◌, ◌||◌, ℕ, Bool, false, List, map, slice_get, take, Option, Some, None, option_map}
use Rattle.std.specs.Global.{Box}
use Rattle.std.specs.BTreeMap.{is_at}
use Rattle.std.specs.BTreeSet.{BTreeSet, contains}
use Rattle.std.specs.List.{list_any, IsDistinct}
use Rattle.std.specs.Ordering.{eq_by_cmp}
use Rattle.circ_records.specs.Keys.{key_cmp}
use Rattle.circ_records.specs.Records.{Entries, record_at}
use Rattle.circ_records.specs.declared.key.Key.{Key}
use Rattle.circ_records.specs.declared.record.Record.{Record}
use Rattle.read_set.specs.Settling.{Contents}
use Rattle.read_set.specs.declared.notes.Name.{Name}
use Rattle.read_set.specs.declared.notes.Name.TheVariants as names
use Rattle.read_set.specs.declared.notes.Note.{Note}
use Rattle.version_store.specs.declared.table.Place.{Place}
use Rattle.board_lines.specs.declared.notes.PlaceNote.{PlaceNote}

-- a note, with the contents of the version at its place
pub record Noted : Type 0 where
  pub key : Key
  pub name : Name
  pub contents : Option Contents

abbrev pub contents_at : {J : Type 0} → Place J → Contents
contents_at place = place.version.now

abbrev pub note_with : {J : Type 0} → Key → Name → Option (Place J) → Noted
note_with key name place =
    record { key = key; name = name; contents = option_map contents_at place }

-- a note as the code stores it
abbrev pub noted : {J : Type 0} → PlaceNote J → Noted
noted n = note_with n.key n.name n.place

-- the record of a note: the base's, or what the version writes at the key
abbrev pub found_by : Entries → Key → Option Contents → Option Record
found_by base k None = record_at base k
found_by base k (Some contents) = record_at contents.writes k

abbrev pub note_by : Entries → Noted → Note
note_by base n = record { key = n.key; name = n.name; found = found_by base n.key n.contents }

-- the key and the name of a note
abbrev pub key_and_name : Note → Key × Name
key_and_name n = (n.key, n.name)

abbrev pub notes_by : Entries → List Noted → List Note
notes_by base notes = map (note_by base) notes

-- whether a key is noted
abbrev pub is_noted : List Noted → Key → Bool
is_noted notes k = list_any (λ n. is_at (key_cmp k) n.key) notes

-- exactly the notes named by the base have no place: the base's record is in no version
abbrev pub IsPlaced : Noted → Type 0
IsPlaced n = (n.name ≡ names.Base) ↔ (n.contents ≡ None)

-- this holds of each note
abbrev pub ArePlaced : List Noted → Type 0
ArePlaced notes = (i : ℕ) (n : Noted) → slice_get notes i ≡ Some n → IsPlaced n

-- each key is noted once
abbrev pub AreOnce : List Noted → Type 0
AreOnce notes = IsDistinct (eq_by_cmp key_cmp) (map (λ n. n.key) notes)

-- the notes that are searched one by one
abbrev pub few : {J : Type 0} → List (PlaceNote J) → List (PlaceNote J)
few notes = take 8 notes

-- whether a key is noted in one of these notes
abbrev pub is_key_in : {J : Type 0} → List (PlaceNote J) → Key → Bool
is_key_in notes k = list_any (λ n. eq_by_cmp key_cmp k n.key) notes

-- whether a key is in the index, if there is one
abbrev pub is_indexed : Option (Box (BTreeSet Key)) → Key → Bool
is_indexed None k = false
is_indexed (Some keys) k = contains key_cmp keys.value k

-- each key is noted once and can be found, among the first notes or by the index; exactly the notes
-- named by the base have no place
pub record AreNoted {J : Type 0} (notes : List (PlaceNote J)) (index : Option (Box (BTreeSet Key))) : Type 0 where
  pub each : (k : Key) → (is_key_in (few notes) k || is_indexed index k) ≡ is_noted (map noted notes) k
  pub once : AreOnce (map noted notes)
  pub placed : ArePlaced (map noted notes)
