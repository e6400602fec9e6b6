use Rattle.std.proofs.Common.{rules, ◌≡◌, None, true}
use Rattle.std.specs.Prelude.{is_some}
use Rattle.circ_records.specs.Records.{record_at}
use Rattle.circ_records.specs.declared.key.Key.{Key}
use Rattle.circ_records.specs.declared.key.Key.TheVariants as keys
use Rattle.read_set.specs.Maps.{Map}
use Rattle.read_set.specs.Replay.{before}
use Rattle.why_lines.proofs.Adding.{adds_put}
use Rattle.why_lines.proofs.base.put_item.Goals as goal

pub returns-in_ok-put : goal.returns-in_ok-put
returns-in_ok-put c =
    let M : Map = before c.args.tracer.now.plan.now c.args.tracer.now.next in
    let key : Key = keys.Item c.args.id.now in
    let same : c.in_ok-clone.field-0 ≡ c.args.id.now = c.in_ok-clone.ensures.cases in
    let none : record_at c.args.records.now key ≡ None = search rules in
    let there : is_some (M key) ≡ true = search rules in
    let put = rw same at c.in_ok-put.ensures.put in
    adds_put M c.args.records.now c.put.new.self key c.in_ok-item-2.field-0 none there put
