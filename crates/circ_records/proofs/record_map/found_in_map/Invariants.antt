use Rattle.std.proofs.Common.{◌≡◌}
use Rattle.circ_records.specs.Keys.{key_of}
use Rattle.circ_records.specs.Records.{record_at}
use Rattle.circ_records.proofs.record_map.found_in_map.Given as goal

-- those so far have another key
abbrev pub invariant-loop-own : goal.invariant-loop-own
invariant-loop-own l = record_at l.mapped.entries (key_of l.key) ≡ record_at l.own-iterator (key_of l.key)
