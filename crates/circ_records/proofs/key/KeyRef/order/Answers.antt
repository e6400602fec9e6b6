use Rattle.std.proofs.Common.{◌∙◌, ap, sym}
use Rattle.std.specs.Ordering.{ordering_reverse}
use Rattle.circ_records.specs.Keys.{key_cmp_total, key_of}
use Rattle.circ_records.proofs.key.KeyRef.order.Goals as goal

pub returns : goal.returns
returns c = c.reverse.ensures ∙ ap ordering_reverse c.compare.ensures ∙ sym (key_cmp_total.antisymm c.args.key.now (key_of c.args.self))
