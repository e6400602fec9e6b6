use Rattle.std.proofs.Common.{◌≡◌, map}
use Rattle.std.specs.Option.{option_copied}
use Rattle.sip_reader.specs.Fields.{field}
use Rattle.sip_answer.proofs.recorded.fields.due_and_fee.Given as goal

-- what was found are the first of the pieces so far
abbrev pub invariant-loop-piece : goal.invariant-loop-piece
invariant-loop-piece l =
    (option_copied l.due ≡ field 65 72 (map (λ p. p.now) l.yielded)) × (option_copied l.fee ≡ field 66 86 (map (λ p. p.now) l.yielded))
