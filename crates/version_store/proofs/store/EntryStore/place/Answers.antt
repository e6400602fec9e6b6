use Rattle.std.proofs.Common.{◌-◌, refl, sym, ap, subst, ◌∙◌, is_some, true, false}
use Rattle.std.specs.FinMap.{get}
use Rattle.version_store.specs.declared.entry.StoredEntry.{StoredEntry}
use Rattle.version_store.specs.Entries.{Store, Line, IsLine, shown}
use Rattle.version_store.proofs.Changes.{indexed_put, put_at, put_and_out, absent_at}
use Rattle.version_store.proofs.store.EntryStore.place.Goals as goal

pub invariant_of-self-in-Ok : goal.invariant_of-self-in-Ok
invariant_of-self-in-Ok g c =
    let a = c.self.inside in
    let s : Store = record { first = a.first; lines = a.lines.items } in
    let made : StoredEntry g.row.J.Denot = record { attempt = c.args.attempt; suspect = false; place = c.args.place } in
    let there : IsLine s c.args.line = subst (λ (x : Store). IsLine x c.args.line) (sym c.self.view_is) c.requires in
    indexed_put a.index c.set.new.self s c.args.line (c.args.line - a.first) c.args.key.now true c.index_mut-row.result.now c.put.new.self
    there refl c.index_mut-row.ensures.value c.self.invariant c.in_ok-set.ensures.put
    (λ k. ap (λ (l : Line). is_some (get l k)) c.in-Ok.ensures.put ∙ put_at c.index_mut-row.result.now c.args.key.now (shown made) k)

pub invariant_of-self-in-Err : goal.invariant_of-self-in-Err
invariant_of-self-in-Err g c =
    let a = c.self.inside in
    let s : Store = record { first = a.first; lines = a.lines.items } in
    let there : IsLine s c.args.line = subst (λ (x : Store). IsLine x c.args.line) (sym c.self.view_is) c.requires in
    indexed_put a.index c.clear.new.self s c.args.line (c.args.line - a.first) c.args.key.now false c.index_mut-row.result.now c.put.new.self
    there refl c.index_mut-row.ensures.value c.self.invariant
    (put_and_out a.index c.set.new.self c.clear.new.self c.args.key.now c.args.line true c.in_ok-set.ensures.put c.clear.ensures)
    (λ k. ap (λ (l : Line). is_some (get l k)) c.in-Err.ensures.same ∙ absent_at c.index_mut-row.result.now c.args.key.now c.in-Err.ensures.absent k)
