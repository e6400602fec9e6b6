use Rattle.std.specs.Option.{option_copied}
use Rattle.read_set.specs.Lookups.{patron_at}
use Rattle.read_set.specs.RenewAlls.{renew_all_rule, renew_all_rule_known}
use Rattle.read_set.specs.WholeMap.{renew_all}
use Rattle.read_set.proofs.Following.{goes_on, meant_by}
use Rattle.read_set.proofs.WholeMaps.{asking-gives}
use Rattle.read_set.proofs.Gaining.{gains_first, gains_then}
use Rattle.loan_meaning.proofs.renew_alls.renew_all.Goals as goal

pub returns-clause-gives : goal.returns-clause-gives
unfolding renew_all_rule
returns-clause-gives g c =
    goes_on _ _ (patron_at c.args.line.now.policy.now c.args.request.now.patron) (λ patron. renew_all_rule_known c.args.line.now.policy.now c.args.line.now.number (option_copied c.args.named) c.args.request.now c.args.line.now.date patron) c.in_ok-member.member _
    c.renew_any.ensures.keeps.grows c.in_ok-member.ensures.gives c.renew_any.ensures.gives

pub returns-clause-means : goal.returns-clause-means
returns-clause-means g c =
    meant_by (g.S.Source.has c.renew_any.new.source) (renew_all_rule c.args.line.now.policy.now c.args.line.now.number (option_copied c.args.named) c.args.request.now c.args.line.now.date)
    (renew_all c.args.line.now.policy.now c.args.line.now.number (option_copied c.args.named) c.args.request.now c.args.line.now.date)
    (asking-gives.renewals_of_all c.args.line.now.policy.now c.args.line.now.number (option_copied c.args.named) c.args.request.now c.args.line.now.date)
    c.renew_any.result (returns-clause-gives g c)

pub returns-clause-keeps : goal.returns-clause-keeps
unfolding renew_all_rule
returns-clause-keeps g c =
    gains_then _ _ _ (patron_at c.args.line.now.policy.now c.args.request.now.patron) (λ patron. renew_all_rule_known c.args.line.now.policy.now c.args.line.now.number (option_copied c.args.named) c.args.request.now c.args.line.now.date patron) c.in_ok-member.member
    c.in_ok-member.ensures.gives c.in_ok-member.ensures.keeps c.renew_any.ensures.keeps

pub returns-in_err-member-clause-keeps : goal.returns-in_err-member-clause-keeps
unfolding renew_all_rule
returns-in_err-member-clause-keeps g c =
    gains_first _ _ (patron_at c.args.line.now.policy.now c.args.request.now.patron) (λ patron. renew_all_rule_known c.args.line.now.policy.now c.args.line.now.number (option_copied c.args.named) c.args.request.now c.args.line.now.date patron) c.in_err-member.ensures.keeps
