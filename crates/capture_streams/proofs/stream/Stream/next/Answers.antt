use Rattle.std.proofs.Common.{◌≡◌, Some}
use Rattle.capture_streams.specs.Streams.{byte_at}
use Rattle.capture_streams.proofs.Bytes.{gives-next}
use Rattle.capture_streams.proofs.stream.Stream.next.Goals as goal

pub returns-clause-some : goal.returns-clause-some
returns-clause-some c later given =
    let a = c.self.inside in
    let came : byte_at a.waiting.items a.next ≡ Some c.in_ok-byte.byte = cc (c.in_ok-byte.ensures.value, c.deref.ensures.value) in
    rw (← c.self.view_is) (gives-next a.next a.waiting.items later c.in_ok-byte.byte given came)
