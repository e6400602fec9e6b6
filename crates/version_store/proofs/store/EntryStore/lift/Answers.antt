use Rattle.std.proofs.Common.{◌≡◌, sym, ap, subst, ◌∙◌, Some, false, is_some}
use Rattle.std.specs.FinMap.{get}
use Rattle.version_store.specs.Entries.{Store, position_of, Line}
use Rattle.version_store.proofs.Sights.{position_is}
use Rattle.version_store.proofs.Changes.{indexed_put, taken_at}
use Rattle.version_store.proofs.store.EntryStore.lift.Goals as goal

pub invariant_of-self : goal.invariant_of-self
invariant_of-self g c =
    let a = c.self.inside in
    let s : Store = record { first = a.first; lines = a.lines.items } in
    let at = position_is s c.args.line c.in-Some.position (subst (λ (x : Store). position_of x c.args.line ≡ Some c.in-Some.position) (sym c.self.view_is) (sym c.in-Some.ensures)) in
    indexed_put a.index c.clear.new.self s c.args.line c.in-Some.position c.args.key.now false c.index_mut-row.result.now c.take_out.new.self
    at.0 at.1 c.index_mut-row.ensures.value c.self.invariant c.clear.ensures
    (λ k. ap (λ (l : Line). is_some (get l k)) c.take_out.ensures ∙ taken_at c.index_mut-row.result.now c.args.key.now k)
