use Rattle.std.proofs.Common.{◌≡◌, filter, take}
use Rattle.sip_answer.specs.Deeds.{names_item}
use Rattle.loan_meaning.proofs.renew_alls.named_among.Given as goal

-- those so far that are named
abbrev pub invariant-loop-id : goal.invariant-loop-id
invariant-loop-id l = l.named.items ≡ filter (names_item l.texts) (take l.id-index l.loans)
