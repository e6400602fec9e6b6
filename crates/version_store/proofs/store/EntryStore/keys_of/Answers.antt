use Rattle.std.proofs.Common.{sym, refl, arith}
use Rattle.version_store.proofs.Sights.{position_none, none_few, none_nth}
use Rattle.version_store.proofs.store.EntryStore.keys_of.Goals as goal

pub returns-in_default : goal.returns-in_default
returns-in_default g c = record {
  value = rw (position_none c.args.self.now c.args.line (sym c.in_default.ensures), none_nth c.args.i) refl;
  few = rw (position_none c.args.self.now c.args.line (sym c.in_default.ensures)) (omega (arith, none_few));
}
