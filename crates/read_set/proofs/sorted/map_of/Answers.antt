use Rattle.std.proofs.Common.{◌≡◌, ◌∙◌, add-one, ap, rules}
use Rattle.std.specs.BTreeMap.{insert_entry}
use Rattle.circ_records.specs.Keys.{key_cmp}
use Rattle.circ_records.specs.Records.{Entries}
use Rattle.read_set.proofs.Rising.{goes-last}
use Rattle.read_set.proofs.sorted.map_of.Goals as goal

pub loop-entry-preserved : goal.loop-entry-preserved
loop-entry-preserved c =
    let es = c.args.entries.now in
    let i = c.loop-entry.entry-index in
    let e = c.entry-item.result in
    let put : c.insert.new.self.entries ≡ insert_entry key_cmp c.loop-entry.map.entries e.0 e.1 = search rules in
    rw add-one (put ∙ ap (λ (l : Entries). insert_entry key_cmp l e.0 e.1) c.loop-entry.invariant ∙ goes-last es i e c.requires c.loop-entry-test.true c.entry-item.is)
