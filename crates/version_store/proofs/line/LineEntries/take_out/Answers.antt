use Rattle.std.proofs.Common.{◌≡◌, ap, arith, sym, subst, ◌∙◌}
use Rattle.std.specs.FinMap.Entries.{is_sorted-where_key, where_key}
use Rattle.circ_records.specs.Keys.{key_cmp}
use Rattle.version_store.specs.Entries.{keyed, line_of}
use Rattle.version_store.specs.Devices.Positions.{Rise}
use Rattle.version_store.proofs.Keyed.{keyed_length, keyed_remove}
use Rattle.version_store.proofs.Positions.{at_out, gap_out, others}
use Rattle.version_store.proofs.Views.{line_out}
use Rattle.version_store.proofs.line.LineEntries.take_out.Goals as goal

out_here : (g : _) (c : goal.After-remove g) → keyed c.remove.new.self ≡ where_key key_cmp (others c.args.key.now) (keyed c.self.inside.entries)
out_here g c =
    let es = c.self.inside.entries in
    let at = c.in-Ok.ensures in
    ap (λ l. keyed l) c.remove.ensures
    ∙ keyed_remove es c.in-Ok.position
    ∙ at_out (keyed es) c.args.key.now c.in-Ok.position c.self.invariant at

pub remove-requires : goal.remove-requires
remove-requires g c = omega (arith, c.in-Ok.ensures.within, keyed_length c.self.inside.entries)

pub invariant_of-self : goal.invariant_of-self
invariant_of-self g c = subst Rise (sym (out_here g c)) (is_sorted-where_key key_cmp (others c.args.key.now) (keyed c.self.inside.entries) c.self.invariant)

pub returns-in-Ok : goal.returns-in-Ok
returns-in-Ok g c = rw (← c.self.view_is) (ap line_of (out_here g c) ∙ line_out (keyed c.self.inside.entries) c.args.key.now)

pub returns-in_default : goal.returns-in_default
returns-in_default g c =
    let es = keyed c.self.inside.entries in
    let k = c.args.key.now in
    let gap = c.in_default.ensures in
    rw (← c.self.view_is) (ap line_of (sym (gap_out es k c.in_default.field-0 gap)) ∙ line_out es k)
