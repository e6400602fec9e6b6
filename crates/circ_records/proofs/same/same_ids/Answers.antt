use Rattle.std.proofs.Common.{refl, arith}
use Rattle.circ_records.proofs.Alike.{same_lists}
use Rattle.circ_records.proofs.same.same_ids.Goals as goal

pub returns : goal.returns
returns c =
    (λ _. same_lists c.args.a.now c.args.b.now (omega arith) (λ j lt. c.loop-i.invariant j (omega arith)), λ _. refl)
