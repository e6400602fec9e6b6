-- For proofs alone: the entries of a line, wherever they are.
use denote.Ref.{Bor}
use Rattle.std.specs.Prelude.{List, [], ◌∷◌}
use Rattle.circ_records.specs.declared.key.Key.{Key}
use Rattle.version_store.specs.declared.entry.StoredEntry.{StoredEntry}
use Rattle.version_store.specs.declared.entry_list.FewOrMany.{FewOrMany}
use Rattle.version_store.specs.declared.entry_list.FewOrMany.TheVariants.{Empty, One, Two, Many}

abbrev pub entries_in : {J : Type 0} → FewOrMany J → List (Bor Key × StoredEntry J)
entries_in Empty = []
entries_in (One entry) = entry ∷ []
entries_in (Two entry other) = entry ∷ other ∷ []
entries_in (Many entries) = entries.items
