use Rattle.std.proofs.Common.{inr}
use Rattle.std.proofs.lemmas.Result.{IfErr-weaker}
use Rattle.why_run.proofs.whole.write_all.Goals as goal

pub returns-clause-written : goal.returns-clause-written
returns-clause-written g c = rw (c.as_slice.ensures.value, c.in_ok-actions.ensures) at c.do_all.ensures.done

pub returns-clause-stops : goal.returns-clause-stops
returns-clause-stops g c =
    IfErr-weaker c.do_all.result _ _ (λ stop r. (r.0, r.1, inr r.2)) (rw (c.as_slice.ensures.value, c.in_ok-actions.ensures) at c.do_all.ensures.stops)
