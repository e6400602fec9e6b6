use Rattle.std.proofs.Common.{◌≡◌, ◌∷◌, ◌++◌, [], refl, ap, ◌∙◌}
use Rattle.capture_streams.specs.Streams.{Segment}
use Rattle.capture_streams.proofs.Bytes.{gives-put, gives-same, on-err, same-needed}
use Rattle.capture_streams.proofs.stream.Stream.put.Goals as goal

pub returns-in_err-push-clause-same : goal.returns-in_err-push-clause-same
returns-in_err-push-clause-same c =
    let a = c.self.inside in
    let kept : c.push.new.self.items ≡ c.forget.new.waiting.items = c.in_err-push.ensures.items in
    let same = same-needed a.waiting.items c.forget.new.waiting.items a.next c.forget.ensures in
    on-err c.from_residual-in_err-push.result _
    (λ later given. rw (← c.self.view_is, kept) (gives-same a.next c.forget.new.waiting.items a.waiting.items later given same))

pub returns-clause-given : goal.returns-clause-given
returns-clause-given c later given =
    let a = c.self.inside in
    let s : Segment = record { at = c.args.at; bytes = c.args.bytes.now } in
    let put : c.push.new.self.items ≡ c.forget.new.waiting.items ++ s ∷ [] =
    c.in_ok-push.ensures.items ∙ ap (λ (t : Segment). c.forget.new.waiting.items ++ t ∷ []) c.in_ok-segment.ensures in
    let same = same-needed a.waiting.items c.forget.new.waiting.items a.next c.forget.ensures in
    rw (← c.self.view_is) (gives-put a.next a.next c.forget.new.waiting.items a.waiting.items c.push.new.self.items later s given refl put same)
