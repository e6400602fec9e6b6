use Rattle.std.proofs.lemmas.Result.{err_from_is_err_and}
use Rattle.read_set.specs.Lookups.{patron_at, item_at}
use Rattle.read_set.specs.Checkouts.{checkout_rule_known, checkout_rule_for}
use Rattle.read_set.proofs.Following.{goes_on, stop_next, stop_then}
use Rattle.read_set.proofs.Gaining.{gains_first, gains_then}
use Rattle.loan_meaning.proofs.checkouts.lend_known.Goals as goal

pub returns-in_err-article-clause-gives : goal.returns-in_err-article-clause-gives
unfolding checkout_rule_for
returns-in_err-article-clause-gives g c =
    let p = err_from_is_err_and c.from_residual-in_err-article.result c.from_residual-in_err-article.ensures.1 in
    rw (p.1, p.2) (stop_next _ _ (patron_at c.args.asked.now.policy.now c.args.asked.now.request.patron) _ c.in_ok-member.member _ c.in_err-article.ensures.keeps.grows c.in_ok-member.ensures.gives
    (stop_then _ (item_at c.args.asked.now.policy.now c.args.asked.now.request.item) (λ item. checkout_rule_known c.args.asked.now.policy.now c.args.asked.now.number c.args.renewal c.args.asked.now.request c.args.asked.now.date c.in_ok-member.member item) _ c.in_err-article.ensures.gives))

pub returns-clause-gives : goal.returns-clause-gives
unfolding checkout_rule_for
returns-clause-gives g c =
    goes_on _ _ (patron_at c.args.asked.now.policy.now c.args.asked.now.request.patron) _ c.in_ok-member.member _ (λ k r e. c.lend_both.ensures.keeps.grows k r (c.in_ok-article.ensures.keeps.grows k r e)) c.in_ok-member.ensures.gives
    (goes_on _ _ (item_at c.args.asked.now.policy.now c.args.asked.now.request.item) (λ item. checkout_rule_known c.args.asked.now.policy.now c.args.asked.now.number c.args.renewal c.args.asked.now.request c.args.asked.now.date c.in_ok-member.member item) c.in_ok-article.article _
    c.lend_both.ensures.keeps.grows c.in_ok-article.ensures.gives c.lend_both.ensures.gives)

pub returns-in_err-article-clause-keeps : goal.returns-in_err-article-clause-keeps
unfolding checkout_rule_for
returns-in_err-article-clause-keeps g c =
    gains_then _ _ _ (patron_at c.args.asked.now.policy.now c.args.asked.now.request.patron) _ c.in_ok-member.member c.in_ok-member.ensures.gives c.in_ok-member.ensures.keeps
    (gains_first _ _ (item_at c.args.asked.now.policy.now c.args.asked.now.request.item) (λ item. checkout_rule_known c.args.asked.now.policy.now c.args.asked.now.number c.args.renewal c.args.asked.now.request c.args.asked.now.date c.in_ok-member.member item) c.in_err-article.ensures.keeps)

pub returns-clause-keeps : goal.returns-clause-keeps
unfolding checkout_rule_for
returns-clause-keeps g c =
    gains_then _ _ _ (patron_at c.args.asked.now.policy.now c.args.asked.now.request.patron) _ c.in_ok-member.member c.in_ok-member.ensures.gives c.in_ok-member.ensures.keeps
    (gains_then _ _ _ (item_at c.args.asked.now.policy.now c.args.asked.now.request.item) (λ item. checkout_rule_known c.args.asked.now.policy.now c.args.asked.now.number c.args.renewal c.args.asked.now.request c.args.asked.now.date c.in_ok-member.member item) c.in_ok-article.article c.in_ok-article.ensures.gives c.in_ok-article.ensures.keeps c.lend_both.ensures.keeps)

pub returns-in_err-member-clause-keeps : goal.returns-in_err-member-clause-keeps
unfolding checkout_rule_for
returns-in_err-member-clause-keeps g c =
    gains_first _ _ (patron_at c.args.asked.now.policy.now c.args.asked.now.request.patron) _ c.in_err-member.ensures.keeps
