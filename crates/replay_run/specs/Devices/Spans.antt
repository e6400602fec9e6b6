-- For proofs alone: which keys of a list are those of one line.
use Rattle.std.specs.Prelude.{◌+◌, ◌≤◌, List, drop, length, take}
use Rattle.circ_records.specs.declared.key.Key.{Key}
use Rattle.replay_run.specs.declared.written.Span.{Span}

abbrev pub keys_in : List Key → Span → List Key
keys_in keys s = take s.count (drop s.from keys)

abbrev pub IsWithin : List Key → Span → Type 0
IsWithin keys s = s.from + s.count ≤ length keys
