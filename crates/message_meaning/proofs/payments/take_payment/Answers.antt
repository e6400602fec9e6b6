use Rattle.read_set.specs.Lookups.{patron_at}
use Rattle.read_set.specs.Payments.{fee_paid_rule, fee_paid_rule_known}
use Rattle.read_set.specs.WholeMap.{fee_paid}
use Rattle.read_set.proofs.Following.{goes_on, meant_by}
use Rattle.read_set.proofs.WholeMaps.{asking-gives}
use Rattle.read_set.proofs.Gaining.{gains_first, gains_then}
use Rattle.message_meaning.proofs.payments.take_payment.Goals as goal

pub returns-clause-gives : goal.returns-clause-gives
unfolding fee_paid_rule
returns-clause-gives g c =
    goes_on _ _ (patron_at c.args.policy.now c.args.request.now.patron) (λ patron. fee_paid_rule_known c.args.policy.now c.args.request.now c.args.date patron) c.in_ok-member.member _
    c.pay_known.ensures.keeps.grows c.in_ok-member.ensures.gives c.pay_known.ensures.gives

pub returns-clause-means : goal.returns-clause-means
returns-clause-means g c =
    meant_by (g.S.Source.has c.pay_known.new.source) (fee_paid_rule c.args.policy.now c.args.request.now c.args.date)
    (fee_paid c.args.policy.now c.args.request.now c.args.date)
    (asking-gives.payments c.args.policy.now c.args.request.now c.args.date)
    c.pay_known.result (returns-clause-gives g c)

pub returns-clause-keeps : goal.returns-clause-keeps
unfolding fee_paid_rule
returns-clause-keeps g c =
    gains_then _ _ _ (patron_at c.args.policy.now c.args.request.now.patron) (λ patron. fee_paid_rule_known c.args.policy.now c.args.request.now c.args.date patron) c.in_ok-member.member
    c.in_ok-member.ensures.gives c.in_ok-member.ensures.keeps c.pay_known.ensures.keeps

pub returns-in_err-member-clause-keeps : goal.returns-in_err-member-clause-keeps
unfolding fee_paid_rule
returns-in_err-member-clause-keeps g c =
    gains_first _ _ (patron_at c.args.policy.now c.args.request.now.patron) (λ patron. fee_paid_rule_known c.args.policy.now c.args.request.now c.args.date patron) c.in_err-member.ensures.keeps
