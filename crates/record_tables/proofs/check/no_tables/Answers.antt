use Rattle.record_tables.specs.AllBroken.{no_tables}
use Rattle.record_tables.proofs.Checked.{six}
use Rattle.record_tables.proofs.check.no_tables.Goals as goal

pub returns : goal.returns
unfolding no_tables
returns c =
    six _ _ _ _ _ _ _ _ _ _ _ _ _ c.new-faults.ensures.items c.in_ok-test_text.ensures c.in_ok-test_text-2.ensures c.in_ok-test_text-3.ensures c.in_ok-test_text-4.ensures c.in_ok-test_text-5.ensures
    c.in_ok-test_text-6.ensures
