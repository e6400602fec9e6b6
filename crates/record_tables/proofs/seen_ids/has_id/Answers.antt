use Rattle.std.proofs.Common.{◌∙◌}
use Rattle.record_tables.proofs.seen_ids.has_id.Goals as goal

pub returns : goal.returns
returns c = λ column rows has. c.contains.ensures ∙ has c.args.id.now c.keeps_its_form.ensures
