use Rattle.std.proofs.Common.{map, take}
use Rattle.std.specs.Prelude.{string_bytes}
use Rattle.outside.specs.Events.{Did}
use Rattle.whole_run.specs.Looking.{AreFound}
use Rattle.whole_run.proofs.loss.find_all.Given as goal

abbrev pub invariant-loop-path : goal.invariant-loop-path
invariant-loop-path g l = Did (AreFound (map string_bytes (take l.path-index l.paths)) l.files.items) (g.O.Outside.log l.fn.outside) (g.O.Outside.log l.outside)
