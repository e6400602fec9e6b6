use Rattle.version_store.proofs.Sights.{indexed_none}
use Rattle.version_store.proofs.store.EntryStore.new.Goals as goal

pub invariant_of-result : goal.invariant_of-result
invariant_of-result g c = indexed_none c.in_ok-new.field-0 c.args.first c.args.lines c.in_ok-no_lines.field-0.items c.in_ok-new.ensures c.in_ok-no_lines.ensures
