use Rattle.std.proofs.Common.{◌≡◌, ◌∙◌, sym, ap}
use Rattle.std.specs.Ordering.{is_lt}
use Rattle.std.specs.declared.cmp.Ordering.TheVariants.{Less}
use Rattle.circ_records.specs.Keys.{key_cmp}
use Rattle.circ_records.specs.Records.{record_at}
use Rattle.circ_records.proofs.Positions.{goes-before, less-of, none-least}
use Rattle.circ_records.proofs.record_map.goes_first.Goals as goal

pub returns-in-Some-clause-none : goal.returns-in-Some-clause-none
returns-in-Some-clause-none c = λ is.
    let below : key_cmp c.args.key.now c.in-Some.first.now ≡ Less = less-of _ (ap is_lt (sym c.cmp.ensures) ∙ sym c.is_lt.ensures ∙ is) in
    none-least (record_at c.args.mapped.now.entries c.args.key.now) c.in-Some.first.now c.args.key.now (c.in-Some.ensures.least c.args.key.now) below

pub returns-in-Some-clause-first : goal.returns-in-Some-clause-first
returns-in-Some-clause-first c = λ is told.
    let below : key_cmp c.args.key.now c.in-Some.first.now ≡ Less = less-of _ (ap is_lt (sym c.cmp.ensures) ∙ sym c.is_lt.ensures ∙ is) in
    goes-before c.args.mapped.now.entries c.in-Some.first.now c.in-Some.field-0-1.now c.args.key.now told c.in-Some.ensures.first below
