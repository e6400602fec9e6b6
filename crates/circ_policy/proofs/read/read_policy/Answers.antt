use Rattle.toml.specs.View.{table_view}
use Rattle.circ_policy.proofs.Ranges.{section-fits}
use Rattle.circ_policy.proofs.read.read_policy.Goals as goal

pub invariant_of-result : goal.invariant_of-result
invariant_of-result c = (c.in_ok-classes.ensures.rising, section-fits (table_view c.args.table.now) c.in_ok-media.media.items c.in_ok-media.ensures)
