use Rattle.std.proofs.Common.{ap, sym, subst, ◌∙◌}
use Rattle.std.specs.Prelude.{T}
use Rattle.version_store.specs.Entries.{keyed, line_of}
use Rattle.version_store.specs.Devices.Positions.{Rise, marked}
use Rattle.version_store.proofs.Keyed.{keyed_marked}
use Rattle.version_store.proofs.Views.{line_marked, sorted_map}
use Rattle.version_store.proofs.line.LineEntries.suspect_all.Goals as goal

pub returns : goal.returns
returns g c =
    let es = c.self.inside.entries in
    rw (← c.self.view_is) (ap (λ l. line_of (keyed l)) c.suspect_all.ensures ∙ ap line_of (keyed_marked es) ∙ line_marked (keyed es))

pub invariant_of-self : goal.invariant_of-self
invariant_of-self g c =
    let es = c.self.inside.entries in
    subst Rise (sym (ap (λ l. keyed l) c.suspect_all.ensures ∙ keyed_marked es)) (subst T (sym (sorted_map marked (keyed es))) c.self.invariant)
