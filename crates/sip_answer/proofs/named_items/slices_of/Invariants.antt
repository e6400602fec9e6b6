use Rattle.std.proofs.Common.{◌≡◌, map, take}
use Rattle.sip_answer.proofs.named_items.slices_of.Given as goal

-- the texts so far
abbrev pub invariant-loop-text : goal.invariant-loop-text
invariant-loop-text l = map (λ x. x.now) l.slices.items ≡ map (λ t. t.items) (take l.text-index l.texts)
