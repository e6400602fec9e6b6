use Rattle.sip_answer.specs.declared.reason.Reason.TheVariants as reasons
use Rattle.loan_meaning.proofs.Sums.{run_left}
use Rattle.loan_meaning.proofs.renew_alls.turn_any.Goals as goal

pub returns-in_ok-leave-in-None-clause-runs : goal.returns-in_ok-leave-in-None-clause-runs
returns-in_ok-leave-in-None-clause-runs g c =
    rw c.in_ok-leave-in-None.ensures.value (run_left (g.S.Source.has c.args.source.now) c.args.asked.now.number c.args.asked.now.request.item reasons.UnknownItem c.args.done c.args.fresh c.args.sum.now c.requires.runs)
