use Rattle.std.proofs.Common.{refl, subst, sym}
use Rattle.std.proofs.lemmas.Result.{err_from_is_err_and}
use Rattle.read_set.specs.Asks.{Give}
use Rattle.read_set.specs.Stops.{Follows}
use Rattle.read_set.specs.Lookups.{item_at, borrower_at}
use Rattle.read_set.specs.Checkins.{checkin_rule, checked_in}
use Rattle.read_set.specs.Loans.{loan_of}
use Rattle.read_set.specs.WholeMap.{checkin}
use Rattle.read_set.proofs.Following.{follow_next, follow_then, meant_by, stop_next, stop_then}
use Rattle.read_set.proofs.WholeMaps.{asking-gives}
use Rattle.read_set.proofs.Gaining.{gains_first, gains_then}
use Rattle.loan_meaning.proofs.checkins.check_in.Goals as goal

pub returns-in_err-member-clause-gives : goal.returns-in_err-member-clause-gives
unfolding checkin_rule
returns-in_err-member-clause-gives g c =
    let p = err_from_is_err_and c.from_residual-in_err-member.result c.from_residual-in_err-member.ensures.1 in
    let stops = c.in_err-member.ensures.gives in
    rw (p.1, p.2) (stop_next _ _ (item_at c.args.policy.now c.args.request.now.item) _ c.in_ok-article.article _ c.in_err-member.ensures.keeps.grows c.in_ok-article.ensures.gives
    (stop_then _ (borrower_at c.args.policy.now (loan_of c.in_ok-article.article)) (λ member. Give (checked_in c.args.policy.now c.args.n c.args.request.now c.args.date c.in_ok-article.article member)) _ stops))

pub returns-clause-gives : goal.returns-clause-gives
unfolding checkin_rule
returns-clause-gives g c =
    let second = c.in_ok-member.ensures.gives in
    let ended = checked_in c.args.policy.now c.args.n c.args.request.now c.args.date c.in_ok-article.article c.in_ok-member.member in
    let reached = follow_next _ _ (item_at c.args.policy.now c.args.request.now.item) _ c.in_ok-article.article ended c.in_ok-member.ensures.keeps.grows c.in_ok-article.ensures.gives
    (follow_then _ (borrower_at c.args.policy.now (loan_of c.in_ok-article.article)) (λ member. Give (checked_in c.args.policy.now c.args.n c.args.request.now c.args.date c.in_ok-article.article member)) c.in_ok-member.member ended second refl) in
    subst (Follows c.end.result) (sym reached) c.end.ensures

pub returns-clause-means : goal.returns-clause-means
returns-clause-means g c =
    meant_by (g.S.Source.has c.any_borrower_of.new.source) (checkin_rule c.args.policy.now c.args.n c.args.request.now c.args.date)
    (checkin c.args.policy.now c.args.n c.args.request.now c.args.date)
    (asking-gives.checkins c.args.policy.now c.args.n c.args.request.now c.args.date)
    c.end.result (returns-clause-gives g c)

pub returns-in_err-member-clause-keeps : goal.returns-in_err-member-clause-keeps
unfolding checkin_rule
returns-in_err-member-clause-keeps g c =
    let second = c.in_err-member.ensures.keeps in
    gains_then _ _ _ (item_at c.args.policy.now c.args.request.now.item) _ c.in_ok-article.article c.in_ok-article.ensures.gives c.in_ok-article.ensures.keeps
    (gains_first _ _ (borrower_at c.args.policy.now (loan_of c.in_ok-article.article)) (λ member. Give (checked_in c.args.policy.now c.args.n c.args.request.now c.args.date c.in_ok-article.article member)) second)

pub returns-clause-keeps : goal.returns-clause-keeps
unfolding checkin_rule
returns-clause-keeps g c =
    let second = c.in_ok-member.ensures.keeps in
    gains_then _ _ _ (item_at c.args.policy.now c.args.request.now.item) _ c.in_ok-article.article c.in_ok-article.ensures.gives c.in_ok-article.ensures.keeps
    (gains_first _ _ (borrower_at c.args.policy.now (loan_of c.in_ok-article.article)) (λ member. Give (checked_in c.args.policy.now c.args.n c.args.request.now c.args.date c.in_ok-article.article member)) second)

pub returns-in_err-article-clause-keeps : goal.returns-in_err-article-clause-keeps
unfolding checkin_rule
returns-in_err-article-clause-keeps g c =
    gains_first _ _ (item_at c.args.policy.now c.args.request.now.item) _ c.in_err-article.ensures.keeps
