-- For proofs alone: a key after all keys of a list of entries.
use Rattle.std.specs.Prelude.{◌≡◌}
use Rattle.std.specs.List.{AllByRecursion}
use Rattle.std.specs.declared.cmp.Ordering.TheVariants.{Less}
use Rattle.circ_records.specs.Keys.{key_cmp}
use Rattle.circ_records.specs.Records.{Entries}
use Rattle.circ_records.specs.declared.key.Key.{Key}

-- all keys of the entries are below a key
abbrev pub IsBehind : Key → Entries → Type 0
IsBehind key entries = AllByRecursion (λ e. key_cmp e.0 key ≡ Less) entries
