use Rattle.std.specs.Prelude.{string_bytes}
use Rattle.whole_run.specs.Checking.{AreLines}
use Rattle.whole_run.proofs.checking.lines_of.Given as goal

abbrev pub invariant-loop-fault : goal.invariant-loop-fault
invariant-loop-fault l = AreLines l.options l.yielded (string_bytes l.text)
