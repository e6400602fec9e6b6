use Rattle.std.proofs.Common.{◌≡◌, ◌++◌, drop, if◌then◌else◌}
use Rattle.read_set.specs.Queues.{without_hold}
use Rattle.loan_meaning.proofs.lists.without_hold.Given as goal

abbrev pub invariant-loop-hold : goal.invariant-loop-hold
invariant-loop-hold l = l.kept.items ++ (if l.found then drop l.hold-index l.holds else without_hold l.patron (drop l.hold-index l.holds)) ≡ without_hold l.patron l.holds
