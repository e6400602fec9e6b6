use Rattle.std.proofs.Common.{◌≡◌, length}
use Rattle.circ_records.specs.Records.{record_at}
use Rattle.circ_records.specs.declared.key.Key.{Key}
use Rattle.read_set.specs.Maps.{put}
use Rattle.message_meaning.proofs.live.Live.put.Given as goal

-- what is left, put over what is there, is what all of it is over what was there
abbrev pub invariant-loop-key : goal.invariant-loop-key
invariant-loop-key l = (k : Key) → put l.left.items (record_at l.self-inside.records) k ≡ put l.fn.writes (record_at l.initial.self-inside.records) k

abbrev pub decreases-loop-key : goal.decreases-loop-key
decreases-loop-key l = length l.left.items
