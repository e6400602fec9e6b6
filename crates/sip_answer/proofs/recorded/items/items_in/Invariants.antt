use Rattle.std.proofs.Common.{◌≡◌, map}
use Rattle.std.specs.List.{filter_map}
use Rattle.sip_reader.specs.Fields.{text_after}
use Rattle.sip_answer.proofs.recorded.items.items_in.Given as goal

-- the texts of the pieces so far
abbrev pub invariant-loop-piece : goal.invariant-loop-piece
invariant-loop-piece l = l.items ≡ filter_map (text_after l.a l.b) (map (λ p. p.now) l.yielded)
