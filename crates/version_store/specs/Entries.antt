-- The entries of the lines, and what a line sees (the board: the visible entry).
use denote.Ref.{Bor}
use Rattle.std.specs.Prelude.{◌≡◌, ◌≢◌, ℕ, zero, suc, ◌+◌, ◌-◌, ◌<◌, ◌≤◌, Bool, true, false, List, map, length, replicate, nat_lt, slice_index_or, slice_set, Option, Some, None, option_map, if◌then◌else◌}
use Rattle.std.specs.FinMap.{FinMap, get, empty, entries, from_entries}
use Rattle.std.specs.declared.cmp.Ordering.TheVariants.{Less}
use Rattle.circ_records.specs.Keys.{key_cmp}
use Rattle.circ_records.specs.declared.key.Key.{Key}
use Rattle.read_set.specs.Settling.{Contents}
use Rattle.read_set.specs.declared.notes.Name.TheVariants as names
use Rattle.version_store.specs.declared.entry.StoredEntry.{StoredEntry}
use Rattle.version_store.specs.declared.entry.Found.{Found}
use Rattle.version_store.specs.declared.entry.Found.TheVariants as found

-- an entry of a line at a key: the attempt that placed it, whether it is suspect, and what the
-- version at its place says
pub record Shown : Type 0 where
  pub attempt : ℕ
  pub suspect : Bool
  pub contents : Contents

-- the entries of a line by their keys
abbrev pub Line : Type 0
Line = FinMap key_cmp Shown

-- the lines from the first number on
pub record Store : Type 0 where
  pub first : ℕ
  pub lines : List Line

abbrev pub no_entries : Line
no_entries = empty

-- a line of this number is there
abbrev pub IsLine : Store → ℕ → Type 0
IsLine s n = (s.first ≤ n) × (n < s.first + length s.lines)

-- there are `count` lines, from this number on
abbrev pub HasLines : ℕ → ℕ → Store → Type 0
HasLines first count s = (s.first ≡ first) × (length s.lines ≡ count)

-- the entries of the line of a number; a line that isn't there has none
abbrev pub line_at : Store → ℕ → Line
line_at s n =
    if nat_lt n s.first then no_entries else slice_index_or s.lines (n - s.first) no_entries

-- other entries for a line that is there; no other line changes
abbrev pub with_line : Store → ℕ → Line → Store
with_line s n l =
    record {
      first = s.first;
      lines = if nat_lt n s.first then s.lines
          else slice_set s.lines (n - s.first) l;
    }

abbrev pub no_rows : ℕ → List Line
no_rows lines = replicate lines no_entries

abbrev pub none_placed : ℕ → ℕ → Store
none_placed first lines = record { first = first; lines = no_rows lines }

abbrev pub position_of : Store → ℕ → Option ℕ
position_of s n =
    if nat_lt n s.first then None else if nat_lt (n - s.first) (length s.lines)
    then Some (n - s.first) else None

-- an entry that is placed isn't suspect
abbrev pub shown_by : ℕ → Contents → Shown
shown_by attempt contents = record { attempt = attempt; suspect = false; contents = contents }

abbrev pub as_suspect : Shown → Shown
as_suspect e = record { attempt = e.attempt; suspect = true; contents = e.contents }

-- each entry is suspect
abbrev pub suspected : Line → Line
suspected l = from_entries (map (λ e. (e.0, as_suspect e.1)) (entries l))

-- the attempt of a line's entry at a key
abbrev pub attempt_at : Line → Key → Option ℕ
attempt_at l k = option_map (λ e. e.attempt) (get l k)

-- each entry of a line is of this attempt
abbrev pub AllOf : Line → ℕ → Type 0
AllOf l a = (q : Key) (e : Shown) → get l q ≡ Some e → e.attempt ≡ a

-- the least key at which a line's entry is of another attempt
abbrev pub IsLeastLeft : Line → ℕ → Key → Type 0
IsLeastLeft l a k =
    ((e : Shown) × (get l k ≡ Some e) × (e.attempt ≢ a))
    × ((q : Key) (e : Shown) → key_cmp q k ≡ Less → get l q ≡ Some e → e.attempt ≡ a)

abbrev pub above : ℕ → Option Shown → Option (ℕ × Shown) → Option (ℕ × Shown)
above n (Some e) below = Some (n, e)
above n None below = below

-- The visible entry: that of the greatest line below n that has one for k.
abbrev pub visible : (ℕ → Line) → ℕ → Key → Option (ℕ × Shown)
visible lines zero k = None
visible lines (suc n) k = above n (get (lines n) k) (visible lines n k)

-- the name of the visible entry, Base where there is none; a suspect entry equals no name
abbrev pub found_of : Option (ℕ × Shown) → Found
found_of None = found.Named names.Base
found_of (Some p) =
    if p.1.suspect then found.Suspect p.0 else found.Named (names.Made p.1.attempt p.0)

abbrev pub found_at : (ℕ → Line) → ℕ → Key → Found
found_at lines n k = found_of (visible lines n k)

-- ---- values of the code
abbrev pub shown : {J : Type 0} → StoredEntry J → Shown
shown e = record { attempt = e.attempt; suspect = e.suspect; contents = e.place.version.now }

-- entries, which borrow their keys, with what they borrow
abbrev pub keyed : {X : Type 0} → List (Bor Key × X) → List (Key × X)
keyed es = map (λ e. (e.0.now, e.1)) es

abbrev pub shown_pair : {J : Type 0} → Key × StoredEntry J → Key × Shown
shown_pair e = (e.0, shown e.1)

abbrev pub line_of : {J : Type 0} → List (Key × StoredEntry J) → Line
line_of es = from_entries (map shown_pair es)

-- the key and the attempt of an entry
abbrev pub IsNamedAt : Option (Key × Shown) → Option (Bor Key × ℕ) → Type 0
IsNamedAt None r = r ≡ None
IsNamedAt (Some e) r = option_map {U = Key × ℕ} (λ p. (p.0.now, p.1)) r ≡ Some (e.0, e.1.attempt)
