use Rattle.std.proofs.Common.{rules}
use Rattle.circ_policy.proofs.Listed.{item_count-view}
use Rattle.circ_policy.proofs.closed.is_short.Goals as goal

pub returns-clause-value : goal.returns-clause-value
returns-clause-value c = rw (item_count-view c.args.items.now.items) (search rules)
