use Rattle.std.proofs.Common.{◌∙◌, Some, ap, arith, sym}
use Rattle.circ_records.specs.Keys.{key_of}
use Rattle.circ_records.specs.declared.key.Key.{Key}
use Rattle.circ_records.specs.declared.record.Record.{Record}
use Rattle.circ_records.proofs.Positions.{held, in-second, missing, rises-first, there-before}
use Rattle.circ_records.proofs.record_map.RecordMap.get.Goals as goal

pub position-requires : goal.position-requires
position-requires c = rises-first c.self.inside.listed.entries.items c.self.inside.mapped.entries c.self.invariant

pub index-requires : goal.index-requires
index-requires c = let within = (held c.self.inside.listed.entries.items (key_of c.args.key) c.in-Ok.position (sym c.position.ensures ∙ c.in-Ok.is)).0 in search (arith, within)

pub returns-in-Ok : goal.returns-in-Ok
returns-in-Ok c =
    let at = there-before c.self.inside.listed.entries.items c.self.inside.mapped.entries (key_of c.args.key) c.in-Ok.position c.index.result.now (sym c.position.ensures ∙ c.in-Ok.is) in
    rw (← c.self.view_is) (ap (λ (e : Key × Record). Some e.1) c.index.ensures ∙ sym at)

pub returns-in-Err : goal.returns-in-Err
returns-in-Err c =
    let es = c.self.inside.listed.entries.items in
    let none = missing 0 es (key_of c.args.key) c.in-Err.field-0 (rises-first es c.self.inside.mapped.entries c.self.invariant) (sym c.position.ensures ∙ c.in-Err.is) in
    rw (← c.self.view_is) (c.found_in_map.ensures ∙ sym (in-second es c.self.inside.mapped.entries (key_of c.args.key) none))
