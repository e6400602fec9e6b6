use Rattle.std.proofs.Common.{sym}
use Rattle.version_store.proofs.Sights.{position_none, none_few}
use Rattle.version_store.proofs.store.EntryStore.count_of.Goals as goal

pub returns-in_default : goal.returns-in_default
returns-in_default g c = rw (position_none c.args.self.now c.args.line (sym c.in_default.ensures)) (sym none_few)
