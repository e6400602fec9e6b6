use Rattle.std.proofs.Common.{◌∙◌, Some, ap, arith, sym}
use Rattle.circ_records.specs.Keys.{key_of}
use Rattle.circ_records.specs.declared.key.Key.{Key}
use Rattle.circ_records.specs.declared.record.Record.{Record}
use Rattle.circ_records.proofs.Positions.{held, missing}
use Rattle.circ_records.proofs.records.Records.get.Goals as goal

pub index-requires : goal.index-requires
index-requires c = let within = (held c.self.inside.records.entries.items (key_of c.args.key) c.in-Ok.position (sym c.position.ensures ∙ c.in-Ok.is)).0 in search (arith, within)

pub returns-in-Ok : goal.returns-in-Ok
returns-in-Ok c =
    let held_there = held c.self.inside.records.entries.items (key_of c.args.key) c.in-Ok.position (sym c.position.ensures ∙ c.in-Ok.is) in
    rw (← c.self.view_is) (ap (λ (e : Key × Record). Some e.1) c.index.ensures ∙ sym (held_there.2 c.index.result.now))

pub returns-in-Err : goal.returns-in-Err
returns-in-Err c = rw (← c.self.view_is) (sym (missing 0 c.self.inside.records.entries.items (key_of c.args.key) c.in-Err.field-0 c.self.invariant (sym c.position.ensures ∙ c.in-Err.is)))
