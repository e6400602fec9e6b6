use Rattle.std.proofs.Common.{◌≡◌, map}
use Rattle.replay_run.specs.Faults.{base_fault}
use Rattle.whole_run.proofs.checking.faults_of_tables.Given as goal

abbrev pub invariant-loop-error : goal.invariant-loop-error
invariant-loop-error l = l.faults.items ≡ map base_fault l.yielded
