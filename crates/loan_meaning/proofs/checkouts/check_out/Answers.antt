use Rattle.read_set.specs.Checkouts.{checkout_rule}
use Rattle.read_set.specs.WholeMap.{checkout}
use Rattle.read_set.specs.Loans.{by_checkout}
use Rattle.read_set.proofs.Following.{meant_by}
use Rattle.read_set.proofs.WholeMaps.{asking-gives}
use Rattle.loan_meaning.proofs.checkouts.check_out.Goals as goal

pub returns-clause-gives : goal.returns-clause-gives
returns-clause-gives g c = rw (← c.in_ok-ask_checkout.ensures) c.lend_known.ensures.gives

pub returns-clause-means : goal.returns-clause-means
returns-clause-means g c =
    meant_by (g.S.Source.has c.lend_known.new.source) (checkout_rule c.args.policy.now c.args.n c.args.request.now c.args.date)
    (checkout c.args.policy.now c.args.n c.args.request.now c.args.date)
    (asking-gives.checkouts c.args.policy.now c.args.n c.args.request.now.renewal (by_checkout c.args.request.now) c.args.date)
    c.lend_known.result (returns-clause-gives g c)
