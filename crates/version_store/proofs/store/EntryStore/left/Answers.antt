use Rattle.std.proofs.Common.{◌≡◌, ◌∙◌, Some, get_or, sym, ap, subst}
use Rattle.std.specs.Prelude.{MatchOption}
use Rattle.std.specs.FinMap.{get, get-empty}
use Rattle.std.proofs.lemmas.Option.{none-some}
use Rattle.circ_records.specs.Keys.{key_cmp}
use Rattle.version_store.specs.Entries.{AllOf, IsLeastLeft, Line, Store, line_at, position_of}
use Rattle.version_store.proofs.Sights.{line_read, position_is, position_none}
use Rattle.version_store.proofs.store.EntryStore.left.Goals as goal

pub returns-in_default : goal.returns-in_default
returns-in_default g c = λ q e h.
    absurd (none-some e (sym (ap (λ (l : Line). get l q) (position_none c.args.self.now c.args.line (sym c.in_default.ensures)) ∙ get-empty key_cmp q) ∙ h))

pub returns : goal.returns
returns g c =
    let a = c.self.inside in
    let s : Store = record { first = a.first; lines = a.lines.items } in
    let at = position_is s c.args.line c.in-Some.position (subst (λ (x : Store). position_of x c.args.line ≡ Some c.in-Some.position) (sym c.self.view_is) (sym c.in-Some.ensures)) in
    let row : c.index.result.now ≡ line_at s c.args.line = line_read s c.args.line c.index.result.now at.0 (c.index.ensures ∙ ap (λ i. get_or a.lines.items i c.index.result.now) at.1) in
    rw (← c.self.view_is)
    (subst (λ (l : Line). MatchOption c.left.result (AllOf l c.args.attempt) (λ k. IsLeastLeft l c.args.attempt k.now)) row c.left.ensures)
