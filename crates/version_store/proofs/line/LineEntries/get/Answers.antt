use denote.Ref.{Bor}
use Rattle.std.proofs.Common.{Some, ap, arith, sym, ◌∙◌}
use Rattle.std.specs.Prelude.{option_map}
use Rattle.circ_records.specs.declared.key.Key.{Key}
use Rattle.version_store.specs.Entries.{keyed, shown}
use Rattle.version_store.specs.declared.entry.StoredEntry.{StoredEntry}
use Rattle.version_store.proofs.Keyed.{keyed_at, keyed_length}
use Rattle.version_store.proofs.Positions.{at_find, gap_find}
use Rattle.version_store.proofs.Views.{get_shown}
use Rattle.version_store.proofs.line.LineEntries.get.Goals as goal

pub index-requires : goal.index-requires
index-requires g c = omega (arith, c.in-Ok.ensures.within, keyed_length c.self.inside.entries)

pub returns-in-Ok : goal.returns-in-Ok
returns-in-Ok g c =
    let es = c.self.inside.entries in
    let d = c.index.result in
    let at = c.in-Ok.ensures in
    rw (← c.self.view_is)
    (ap (λ (e : Bor Key × StoredEntry g.row.J.Denot). Some (shown e.1)) c.index.ensures
    ∙ ap (λ (e : Key × StoredEntry g.row.J.Denot). Some (shown e.1)) (sym (keyed_at es c.in-Ok.position d))
    ∙ sym (get_shown (keyed es) c.args.key.now ∙ ap (option_map shown) (at_find (keyed es) c.args.key.now c.in-Ok.position (d.0.now, d.1) c.self.invariant at)))

pub returns-in-Err : goal.returns-in-Err
returns-in-Err g c =
    let es = c.self.inside.entries in
    let gap = c.in-Err.ensures in
    rw (← c.self.view_is) (sym (get_shown (keyed es) c.args.key.now ∙ ap (option_map shown) (gap_find (keyed es) c.args.key.now c.in-Err.field-0 gap)))
