use Rattle.std.proofs.Common.{◌≡◌, refl, rules}
use Rattle.std.specs.declared.cmp.Ordering.TheVariants.{Greater}
use Rattle.circ_records.specs.Keys.{key_cmp}
use Rattle.circ_records.specs.declared.key.Key.{Key}
use Rattle.circ_records.specs.declared.record.Record.{Record}
use Rattle.circ_records.proofs.Positions.{followed}
use Rattle.circ_records.proofs.record_map.move_first.Goals as goal

pub returns-in_ok-push-clause-same : goal.returns-in_ok-push-clause-same
returns-in_ok-push-clause-same c = λ value.
    let e : Key × Record = (c.in-Some.first, c.in-Some.value) in
    let above : key_cmp c.args.key.now c.in-Some.first ≡ Greater = c.if-not-goes_after_first.ensures refl e c.pop_first.new.self.entries c.in-Some.ensures.removal in
    followed c.args.listed.now.entries.items c.args.mapped.now.entries c.pop_first.new.self.entries c.push.new.self.entries.items e c.args.key.now value c.in-Some.ensures.removal above (search rules)
