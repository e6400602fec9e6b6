use Rattle.std.proofs.Common.{◌≡◌, drop}
use Rattle.circ_records.specs.Records.{record_at}
use Rattle.read_set.proofs.sorted.found_in.Given as goal

abbrev pub invariant-loop-entry : goal.invariant-loop-entry
invariant-loop-entry l = record_at (drop l.entry-index l.entries) l.key ≡ record_at l.entries l.key
