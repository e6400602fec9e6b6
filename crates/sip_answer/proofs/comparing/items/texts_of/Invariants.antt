use Rattle.std.proofs.Common.{◌≡◌, map, take}
use Rattle.sip_answer.proofs.comparing.items.texts_of.Given as goal

abbrev pub invariant-loop-id : goal.invariant-loop-id
invariant-loop-id l = map (λ x. x.now) l.texts.items ≡ take l.id-index l.ids
