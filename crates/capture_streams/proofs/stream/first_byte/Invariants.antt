use Rattle.std.proofs.Common.{◌≡◌, drop}
use Rattle.capture_streams.specs.Streams.{byte_at}
use Rattle.capture_streams.proofs.stream.first_byte.Given as goal

-- no segment so far has the byte
abbrev pub invariant-loop-segment : goal.invariant-loop-segment
invariant-loop-segment l = byte_at (drop l.segment-index l.waiting) l.position ≡ byte_at l.waiting l.position
