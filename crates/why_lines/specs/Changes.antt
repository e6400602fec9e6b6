-- What changed from records to records.
use Rattle.std.specs.Prelude.{◌≡◌, ◌≢◌, List, Option, Some, None, map}
use Rattle.std.specs.BTreeMap.{is_at}
use Rattle.std.specs.List.Sorted.{IsStrictlySortedBy}
use Rattle.std.specs.Map.{lookup}
use Rattle.circ_records.specs.Keys.{key_cmp}
use Rattle.circ_records.specs.Records.{Entries, record_at}
use Rattle.circ_records.specs.declared.key.Key.{Key}
use Rattle.why_lines.specs.declared.change.Change.{Change}

-- the keys rise, so each is there once
abbrev pub AreRising : List (Key × Change) → Type 0
AreRising changes = IsStrictlySortedBy key_cmp (map (λ e. e.0) changes)

-- the change at a key
abbrev pub change_at : List (Key × Change) → Key → Option Change
change_at changes k = lookup (is_at (key_cmp k)) changes

-- A change has the record that was at its key and the one that is there now, and these differ. Where
-- there is none the record is as it was.
abbrev pub IsChange : Entries → Entries → Key → Option Change → Type 0
IsChange before after k None = record_at before k ≡ record_at after k
IsChange before after k (Some c) =
    (c.before ≡ record_at before k) × (c.after ≡ record_at after k) × (c.before ≢ c.after)

pub record AreChanges (before after : Entries) (changes : List (Key × Change)) : Type 0 where
  pub rising : AreRising changes
  pub each : (k : Key) → IsChange before after k (change_at changes k)
