use Rattle.std.proofs.Common.{◌≡◌, map}
use Rattle.std.specs.Option.{option_copied}
use Rattle.sip_reader.specs.Fields.{field}
use Rattle.sip_answer.proofs.recorded.fields.first_of.Given as goal

-- what was found is the first of the pieces so far
abbrev pub invariant-loop-piece : goal.invariant-loop-piece
invariant-loop-piece l = option_copied l.found ≡ field l.a l.b (map (λ p. p.now) l.yielded)
