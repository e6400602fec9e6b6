use Rattle.std.proofs.lemmas.Result.{err_from_is_err_and}
use Rattle.read_set.specs.Lookups.{patron_at, item_at}
use Rattle.read_set.specs.Renewals.{renew_rule_known, renew_rule}
use Rattle.read_set.specs.Loans.{by_renew}
use Rattle.read_set.specs.WholeMap.{renew}
use Rattle.read_set.proofs.Following.{goes_on, meant_by, stop_next, stop_then}
use Rattle.read_set.proofs.WholeMaps.{asking-gives}
use Rattle.read_set.proofs.Gaining.{gains_first, gains_then}
use Rattle.loan_meaning.proofs.renewals.renew_item.Goals as goal

pub returns-in_err-article-clause-gives : goal.returns-in_err-article-clause-gives
unfolding renew_rule
returns-in_err-article-clause-gives g c =
    let p = err_from_is_err_and c.from_residual-in_err-article.result c.from_residual-in_err-article.ensures.1 in
    rw (p.1, p.2) (stop_next _ _ (patron_at c.args.policy.now c.args.request.now.patron) _ c.in_ok-member.member _ c.in_err-article.ensures.keeps.grows c.in_ok-member.ensures.gives
    (stop_then _ (item_at c.args.policy.now c.args.request.now.item) (λ item. renew_rule_known c.args.policy.now c.args.n (by_renew c.args.request.now) c.args.date c.in_ok-member.member item) _ c.in_err-article.ensures.gives))

pub returns-clause-gives : goal.returns-clause-gives
unfolding renew_rule
returns-clause-gives g c =
    let third = rw c.in_ok-ask_renew.ensures at c.renew_both.ensures.gives in
    goes_on _ _ (patron_at c.args.policy.now c.args.request.now.patron) _ c.in_ok-member.member _ (λ k r e. c.renew_both.ensures.keeps.grows k r (c.in_ok-article.ensures.keeps.grows k r e)) c.in_ok-member.ensures.gives
    (goes_on _ _ (item_at c.args.policy.now c.args.request.now.item) (λ item. renew_rule_known c.args.policy.now c.args.n (by_renew c.args.request.now) c.args.date c.in_ok-member.member item) c.in_ok-article.article _
    c.renew_both.ensures.keeps.grows c.in_ok-article.ensures.gives third)

pub returns-clause-means : goal.returns-clause-means
returns-clause-means g c =
    meant_by (g.S.Source.has c.renew_both.new.source) (renew_rule c.args.policy.now c.args.n c.args.request.now c.args.date)
    (renew c.args.policy.now c.args.n c.args.request.now c.args.date)
    (asking-gives.renewals c.args.policy.now c.args.n c.args.request.now c.args.date)
    c.renew_both.result (returns-clause-gives g c)

pub returns-in_err-article-clause-keeps : goal.returns-in_err-article-clause-keeps
unfolding renew_rule
returns-in_err-article-clause-keeps g c =
    gains_then _ _ _ (patron_at c.args.policy.now c.args.request.now.patron) _ c.in_ok-member.member c.in_ok-member.ensures.gives c.in_ok-member.ensures.keeps
    (gains_first _ _ (item_at c.args.policy.now c.args.request.now.item) (λ item. renew_rule_known c.args.policy.now c.args.n (by_renew c.args.request.now) c.args.date c.in_ok-member.member item) c.in_err-article.ensures.keeps)

pub returns-clause-keeps : goal.returns-clause-keeps
unfolding renew_rule
returns-clause-keeps g c =
    let third = rw c.in_ok-ask_renew.ensures at c.renew_both.ensures.keeps in
    gains_then _ _ _ (patron_at c.args.policy.now c.args.request.now.patron) _ c.in_ok-member.member c.in_ok-member.ensures.gives c.in_ok-member.ensures.keeps
    (gains_then _ _ _ (item_at c.args.policy.now c.args.request.now.item) (λ item. renew_rule_known c.args.policy.now c.args.n (by_renew c.args.request.now) c.args.date c.in_ok-member.member item) c.in_ok-article.article c.in_ok-article.ensures.gives c.in_ok-article.ensures.keeps third)

pub returns-in_err-member-clause-keeps : goal.returns-in_err-member-clause-keeps
unfolding renew_rule
returns-in_err-member-clause-keeps g c =
    gains_first _ _ (patron_at c.args.policy.now c.args.request.now.patron) _ c.in_err-member.ensures.keeps
