use Rattle.std.proofs.Common.{◌≡◌, ◌≤◌, ◌-◌, ◌++◌, length, map, drop}
use Rattle.rayon.specs.Lists.{chunks_of}
use Rattle.journal_table.specs.Readings.{requests_read}
use Rattle.journal_table.specs.Stretches.{stretches_of}
use Rattle.journal_table.proofs.readings.read_in_turn.Given as goal

-- the stretches so far and those of what is left are those of all lines
abbrev pub invariant-loop-from : goal.invariant-loop-from
invariant-loop-from l = record {
  within : l.from ≤ length l.lines;
  so_far : stretches_of l.stretches.items
      ++ map requests_read (chunks_of 4096 (drop l.from l.lines))
      ≡ map requests_read (chunks_of 4096 l.lines);
}

abbrev pub decreases-loop-from : goal.decreases-loop-from
decreases-loop-from l = length l.lines - l.from
