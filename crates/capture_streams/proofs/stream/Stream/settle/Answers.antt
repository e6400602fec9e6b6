use Rattle.std.proofs.Common.{◌∙◌}
use Rattle.capture_streams.proofs.Bytes.{gives-same, same-needed}
use Rattle.capture_streams.proofs.stream.Stream.settle.Goals as goal

pub returns-clause-given : goal.returns-clause-given
returns-clause-given c later given =
    let a = c.self.inside in
    let kept = same-needed a.waiting.items c.release.new.waiting.items a.next (c.release.ensures ∙ c.forget.ensures) in
    rw (← c.self.view_is) (gives-same a.next c.release.new.waiting.items a.waiting.items later given kept)
