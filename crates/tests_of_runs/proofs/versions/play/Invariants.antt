use Rattle.version_store.specs.Entries.{HasLines}
use Rattle.tests_of_runs.proofs.versions.play.Given as goal

abbrev pub invariant-loop-line : goal.invariant-loop-line
invariant-loop-line g l = HasLines 1 4 l.store
