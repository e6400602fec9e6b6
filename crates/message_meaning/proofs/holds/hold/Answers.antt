use Rattle.std.proofs.Common.{ap, sym, Ok}
use Rattle.std.proofs.lemmas.Result.{err_from_is_err_and}
use Rattle.read_set.specs.Lookups.{patron_at, item_at}
use Rattle.read_set.specs.Holds.{hold_rule, held}
use Rattle.read_set.specs.Asks.{Give, Done}
use Rattle.read_set.specs.WholeMap.{hold}
use Rattle.read_set.proofs.Following.{follow_next, follow_then, meant_by, stop_next, stop_then}
use Rattle.read_set.proofs.WholeMaps.{asking-gives}
use Rattle.read_set.proofs.Gaining.{gains_first, gains_then}
use Rattle.message_meaning.proofs.holds.hold.Goals as goal

pub returns-in_err-article-clause-gives : goal.returns-in_err-article-clause-gives
unfolding hold_rule
returns-in_err-article-clause-gives g c =
    let p = err_from_is_err_and c.from_residual-in_err-article.result c.from_residual-in_err-article.ensures.1 in
    rw (p.1, p.2) (stop_next _ _ (patron_at c.args.line.now.policy.now c.args.request.now.patron) _ c.in_ok-member.member _ c.in_err-article.ensures.keeps.grows c.in_ok-member.ensures.gives
    (stop_then _ (item_at c.args.line.now.policy.now c.args.request.now.item) (λ item. Give (held c.args.line.now.policy.now c.args.forced c.args.request.now c.args.line.now.date c.in_ok-member.member item)) _ c.in_err-article.ensures.gives))

pub returns-clause-gives : goal.returns-clause-gives
unfolding hold_rule
returns-clause-gives g c =
    follow_next _ _ (patron_at c.args.line.now.policy.now c.args.request.now.patron) _ c.in_ok-member.member _ c.in_ok-article.ensures.keeps.grows c.in_ok-member.ensures.gives
    (follow_then _ (item_at c.args.line.now.policy.now c.args.request.now.item) (λ item. Give (held c.args.line.now.policy.now c.args.forced c.args.request.now c.args.line.now.date c.in_ok-member.member item)) c.in_ok-article.article _ c.in_ok-article.ensures.gives (ap Done (sym c.in_ok-hold_both.ensures)))

pub returns-clause-means : goal.returns-clause-means
returns-clause-means g c =
    meant_by (g.S.Source.has c.item_of.new.source) (hold_rule c.args.line.now.policy.now c.args.forced c.args.request.now c.args.line.now.date)
    (hold c.args.line.now.policy.now c.args.forced c.args.request.now c.args.line.now.date)
    (asking-gives.holds c.args.line.now.policy.now c.args.forced c.args.request.now c.args.line.now.date)
    (Ok c.in_ok-hold_both.field-0) (returns-clause-gives g c)

pub returns-in_err-article-clause-keeps : goal.returns-in_err-article-clause-keeps
unfolding hold_rule
returns-in_err-article-clause-keeps g c =
    gains_then _ _ _ (patron_at c.args.line.now.policy.now c.args.request.now.patron) _ c.in_ok-member.member c.in_ok-member.ensures.gives c.in_ok-member.ensures.keeps
    (gains_first _ _ (item_at c.args.line.now.policy.now c.args.request.now.item) (λ item. Give (held c.args.line.now.policy.now c.args.forced c.args.request.now c.args.line.now.date c.in_ok-member.member item)) c.in_err-article.ensures.keeps)

pub returns-clause-keeps : goal.returns-clause-keeps
unfolding hold_rule
returns-clause-keeps g c =
    gains_then _ _ _ (patron_at c.args.line.now.policy.now c.args.request.now.patron) _ c.in_ok-member.member c.in_ok-member.ensures.gives c.in_ok-member.ensures.keeps
    (gains_first _ _ (item_at c.args.line.now.policy.now c.args.request.now.item) (λ item. Give (held c.args.line.now.policy.now c.args.forced c.args.request.now c.args.line.now.date c.in_ok-member.member item)) c.in_ok-article.ensures.keeps)

pub returns-in_err-member-clause-keeps : goal.returns-in_err-member-clause-keeps
unfolding hold_rule
returns-in_err-member-clause-keeps g c =
    gains_first _ _ (patron_at c.args.line.now.policy.now c.args.request.now.patron) _ c.in_err-member.ensures.keeps

pub returns-in_err-hold_both-clause-keeps : goal.returns-in_err-hold_both-clause-keeps
unfolding hold_rule
returns-in_err-hold_both-clause-keeps g c =
    gains_then _ _ _ (patron_at c.args.line.now.policy.now c.args.request.now.patron) _ c.in_ok-member.member c.in_ok-member.ensures.gives c.in_ok-member.ensures.keeps
    (gains_first _ _ (item_at c.args.line.now.policy.now c.args.request.now.item) (λ item. Give (held c.args.line.now.policy.now c.args.forced c.args.request.now c.args.line.now.date c.in_ok-member.member item)) c.in_ok-article.ensures.keeps)
