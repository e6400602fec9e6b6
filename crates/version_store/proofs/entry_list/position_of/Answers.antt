use denote.Ref.{Bor}
use Rattle.std.proofs.Common.{rules}
use Rattle.std.proofs.lemmas.Fn.{always_returns_same}
use Rattle.circ_records.specs.Keys.{key_cmp}
use Rattle.circ_records.specs.declared.key.Key.{Key}
use Rattle.version_store.specs.declared.entry.StoredEntry.{StoredEntry}
use Rattle.version_store.proofs.Keyed.{searched}
use Rattle.version_store.proofs.entry_list.position_of.Goals as goal

-- the closure says how the key of an entry compares with the one that is looked for
pub returns : goal.returns
returns g c =
    let facts = c.binary_search_by.ensures in
    let by = facts.position (λ (e : Bor Key × StoredEntry g.row.J.Denot). key_cmp e.0.now c.args.key.now) (always_returns_same _ _ _ (λ a r f' called. (search rules, search rules))) in
    searched c.args.entries.now c.args.key.now c.binary_search_by.result c.requires facts.bound by
