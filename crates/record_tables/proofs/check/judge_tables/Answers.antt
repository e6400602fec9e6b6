use Rattle.record_tables.specs.AllBroken.{all_broken_rows}
use Rattle.record_tables.proofs.Checked.{same-sizes, six}
use Rattle.record_tables.proofs.check.judge_tables.Goals as goal

pub returns-clause-broken : goal.returns-clause-broken
unfolding all_broken_rows
returns-clause-broken c =
    six _ _ _ _ _ _ _ _ _ _ _ _ _ c.new-broken.ensures.items c.in_ok-patrons.ensures.broken c.in_ok-items.ensures.broken c.in_ok-loans.ensures.broken
    c.in_ok-fees.ensures.broken c.in_ok-closed.ensures.broken c.in_ok-holds.ensures.broken

pub returns-clause-sizes : goal.returns-clause-sizes
returns-clause-sizes c =
    same-sizes _ _ _ _ _ _ _ _ _ _ _ _ c.in_ok-patrons.ensures.count c.in_ok-items.ensures.count c.in_ok-loans.ensures.count c.in_ok-fees.ensures.count
    c.in_ok-closed.ensures.count c.in_ok-holds.ensures.count
