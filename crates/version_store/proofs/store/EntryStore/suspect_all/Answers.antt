use Rattle.std.proofs.Common.{◌≡◌, sym, ap, subst, ◌∙◌, Some, is_some}
use Rattle.std.specs.FinMap.{get}
use Rattle.version_store.specs.Entries.{Store, position_of, Line}
use Rattle.version_store.proofs.Sights.{position_is}
use Rattle.version_store.proofs.Changes.{same_put, suspected_at}
use Rattle.version_store.proofs.store.EntryStore.suspect_all.Goals as goal

pub invariant_of-self : goal.invariant_of-self
invariant_of-self g c =
    let a = c.self.inside in
    let s : Store = record { first = a.first; lines = a.lines.items } in
    let at = position_is s c.args.line c.in-Some.position (subst (λ (x : Store). position_of x c.args.line ≡ Some c.in-Some.position) (sym c.self.view_is) (sym c.in-Some.ensures)) in
    same_put a.index s c.args.line c.in-Some.position c.index_mut-row.result.now c.suspect_all.new.self
    at.0 at.1 c.index_mut-row.ensures.value c.self.invariant
    (λ k. ap (λ (l : Line). is_some (get l k)) c.suspect_all.ensures ∙ suspected_at c.index_mut-row.result.now k)
