use Rattle.std.proofs.Common.{ap, sym, []}
use Rattle.std.proofs.lemmas.Result.{err_from_is_err_and}
use Rattle.read_set.specs.Asks.{Give, Done}
use Rattle.read_set.specs.Payments.{meant_at, pay_rule_each, payment_rule, all_paid}
use Rattle.read_set.proofs.Following.{follow_next, follow_then, stop_next, stop_then}
use Rattle.read_set.proofs.Gaining.{gains_first, gains_then}
use Rattle.message_meaning.proofs.payments.pay_fees.Goals as goal

pub returns-in_err-done-clause-gives : goal.returns-in_err-done-clause-gives
unfolding payment_rule
returns-in_err-done-clause-gives g c =
    let p = err_from_is_err_and c.from_residual-in_err-done.result c.from_residual-in_err-done.ensures.1 in
    let stops = rw (c.as_slice.ensures, c.hundredths.ensures.value) at c.in_err-done.ensures.gives in
    rw (p.1, p.2) (stop_next _ _ (meant_at c.args.request.now.fee c.args.member.patron.fees) _ c.in_ok-ids.ids _ c.in_err-done.ensures.keeps.grows (rw c.get.ensures at c.in_ok-ids.ensures.gives)
    (stop_then _ (pay_rule_each c.in_ok-ids.ids (record { left = c.args.request.now.amount; writes = []; closed = [] })) (λ done. Give (all_paid c.args.policy.now c.args.request.now c.args.date c.args.member.patron done)) _ stops))

pub returns-clause-gives : goal.returns-clause-gives
unfolding payment_rule
returns-clause-gives g c =
    let second = rw (c.as_slice.ensures, c.hundredths.ensures.value) at c.in_ok-done.ensures.gives in
    follow_next _ _ (meant_at c.args.request.now.fee c.args.member.patron.fees) _ c.in_ok-ids.ids _ c.in_ok-done.ensures.keeps.grows (rw c.get.ensures at c.in_ok-ids.ensures.gives)
    (follow_then _ (pay_rule_each c.in_ok-ids.ids (record { left = c.args.request.now.amount; writes = []; closed = [] })) (λ done. Give (all_paid c.args.policy.now c.args.request.now c.args.date c.args.member.patron done)) c.in_ok-done.done _ second (ap Done (sym c.in_ok-finish.ensures)))

pub returns-in_err-done-clause-keeps : goal.returns-in_err-done-clause-keeps
unfolding payment_rule
returns-in_err-done-clause-keeps g c =
    let second = rw (c.as_slice.ensures, c.hundredths.ensures.value) at c.in_err-done.ensures.keeps in
    gains_then _ _ _ (meant_at c.args.request.now.fee c.args.member.patron.fees) _ c.in_ok-ids.ids (rw c.get.ensures at c.in_ok-ids.ensures.gives) (rw c.get.ensures at c.in_ok-ids.ensures.keeps)
    (gains_first _ _ (pay_rule_each c.in_ok-ids.ids (record { left = c.args.request.now.amount; writes = []; closed = [] })) (λ done. Give (all_paid c.args.policy.now c.args.request.now c.args.date c.args.member.patron done)) second)

pub returns-clause-keeps : goal.returns-clause-keeps
unfolding payment_rule
returns-clause-keeps g c =
    let second = rw (c.as_slice.ensures, c.hundredths.ensures.value) at c.in_ok-done.ensures.keeps in
    gains_then _ _ _ (meant_at c.args.request.now.fee c.args.member.patron.fees) _ c.in_ok-ids.ids (rw c.get.ensures at c.in_ok-ids.ensures.gives) (rw c.get.ensures at c.in_ok-ids.ensures.keeps)
    (gains_first _ _ (pay_rule_each c.in_ok-ids.ids (record { left = c.args.request.now.amount; writes = []; closed = [] })) (λ done. Give (all_paid c.args.policy.now c.args.request.now c.args.date c.args.member.patron done)) second)

pub returns-in_err-ids-clause-keeps : goal.returns-in_err-ids-clause-keeps
unfolding payment_rule
returns-in_err-ids-clause-keeps g c =
    gains_first _ _ (meant_at c.args.request.now.fee c.args.member.patron.fees) _ (rw c.get.ensures at c.in_err-ids.ensures.keeps)

pub returns-in_err-finish-clause-keeps : goal.returns-in_err-finish-clause-keeps
unfolding payment_rule
returns-in_err-finish-clause-keeps g c =
    let second = rw (c.as_slice.ensures, c.hundredths.ensures.value) at c.in_ok-done.ensures.keeps in
    gains_then _ _ _ (meant_at c.args.request.now.fee c.args.member.patron.fees) _ c.in_ok-ids.ids (rw c.get.ensures at c.in_ok-ids.ensures.gives) (rw c.get.ensures at c.in_ok-ids.ensures.keeps)
    (gains_first _ _ (pay_rule_each c.in_ok-ids.ids (record { left = c.args.request.now.amount; writes = []; closed = [] })) (λ done. Give (all_paid c.args.policy.now c.args.request.now c.args.date c.args.member.patron done)) second)
