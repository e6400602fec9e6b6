use Rattle.std.specs.Prelude.{⊤}
use Rattle.circ_records.proofs.position_hints.PositionHints.of.Given as goal

abbrev pub invariant-loop-position : goal.invariant-loop-position
invariant-loop-position l = ⊤
