use Rattle.std.proofs.Common.{◌≡◌, ◌++◌, drop, if◌then◌else◌}
use Rattle.read_set.specs.Queues.{with_pickup}
use Rattle.loan_meaning.proofs.lists.with_pickup.Given as goal

abbrev pub invariant-loop-hold : goal.invariant-loop-hold
invariant-loop-hold l = l.kept.items ++ (if l.found then drop l.hold-index l.holds else with_pickup l.patron l.pickup (drop l.hold-index l.holds)) ≡ with_pickup l.patron l.pickup l.holds
