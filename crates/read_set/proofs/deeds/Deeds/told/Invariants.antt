use Rattle.std.proofs.Common.{◌≡◌, take}
use Rattle.std.specs.List.{AllByRecursion}
use Rattle.journal_table.specs.Readings.{readings_of}
use Rattle.read_set.specs.Coherence.{HasFitDeed}
use Rattle.read_set.specs.Plans.{deeds_of}
use Rattle.read_set.specs.declared.way.Way.TheVariants as ways
use Rattle.read_set.proofs.deeds.Deeds.told.Given as goal

-- the deeds so far are those of the first lines
abbrev pub invariant-loop-place : goal.invariant-loop-place
invariant-loop-place l =
    AllByRecursion HasFitDeed l.deeds.items
    × (l.readings ≡ readings_of l.journal → l.deeds.items ≡ take l.place (deeds_of ways.AsRecorded l.form l.journal))
