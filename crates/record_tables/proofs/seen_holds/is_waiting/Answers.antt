use Rattle.std.proofs.Common.{◌∙◌}
use Rattle.record_tables.proofs.seen_holds.is_waiting.Goals as goal

pub returns : goal.returns
returns c = λ holds has. c.contains.ensures ∙ has c.args.hold.now.0 c.args.hold.now.1 c.keeps_its_form.ensures c.keeps_its_form-2.ensures
