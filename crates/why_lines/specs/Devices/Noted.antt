-- Changes that are noted key by key.
use Rattle.std.specs.Prelude.{◌≡◌, ◌⊎◌, List, [], ◌∷◌, None}
use Rattle.circ_records.specs.Records.{Entries}
use Rattle.circ_records.specs.declared.key.Key.{Key}
use Rattle.why_lines.specs.Changes.{IsChange, change_at}
use Rattle.why_lines.specs.declared.change.Change.{Change}

-- what changed at a key is noted
abbrev pub IsNoted : Entries → Entries → List (Key × Change) → Key → Type 0
IsNoted before after cs k = IsChange before after k (change_at cs k)

-- so far: where nothing is noted something may still be
abbrev pub AreNoted : Entries → Entries → List (Key × Change) → Type 0
AreNoted before after cs = (k : Key) → (change_at cs k ≡ None) ⊎ IsNoted before after cs k

-- what holds of the key of each entry
abbrev pub Each : Entries → (Key → Type 0) → Type 0
Each [] P = Unit {0}
Each (e ∷ more) P = P e.0 × Each more P
