use Rattle.std.proofs.Common.{ap, sym, Ok}
use Rattle.read_set.specs.Lookups.{item_at}
use Rattle.read_set.specs.ItemStatuses.{item_status_rule, updated}
use Rattle.read_set.specs.Asks.{Give, Done}
use Rattle.read_set.specs.WholeMap.{item_status}
use Rattle.read_set.proofs.Following.{follow_then, meant_by}
use Rattle.read_set.proofs.WholeMaps.{asking-gives}
use Rattle.read_set.proofs.Gaining.{gains_first}
use Rattle.message_meaning.proofs.item_statuses.update.Goals as goal

pub returns-clause-gives : goal.returns-clause-gives
unfolding item_status_rule
returns-clause-gives g c =
    follow_then _ (item_at c.args.policy.now c.args.request.now.item) (λ item. Give (updated c.args.request.now c.args.date item)) _ _
    c.in_ok-found.ensures.gives (ap Done (sym c.in_ok-update_found.ensures))

pub returns-clause-means : goal.returns-clause-means
returns-clause-means g c =
    meant_by (g.S.Source.has c.item_of.new.source) (item_status_rule c.args.policy.now c.args.request.now c.args.date)
    (item_status c.args.policy.now c.args.request.now c.args.date)
    (asking-gives.item_statuses c.args.policy.now c.args.request.now c.args.date)
    (Ok c.in_ok-update_found.field-0) (returns-clause-gives g c)

pub returns-in_err-found-clause-keeps : goal.returns-in_err-found-clause-keeps
unfolding item_status_rule
returns-in_err-found-clause-keeps g c =
    gains_first _ _ (item_at c.args.policy.now c.args.request.now.item) (λ item. Give (updated c.args.request.now c.args.date item)) c.in_err-found.ensures.keeps

pub returns-in_err-update_found-clause-keeps : goal.returns-in_err-update_found-clause-keeps
unfolding item_status_rule
returns-in_err-update_found-clause-keeps g c =
    gains_first _ _ (item_at c.args.policy.now c.args.request.now.item) (λ item. Give (updated c.args.request.now c.args.date item)) c.in_ok-found.ensures.keeps

pub returns-clause-keeps : goal.returns-clause-keeps
unfolding item_status_rule
returns-clause-keeps g c =
    gains_first _ _ (item_at c.args.policy.now c.args.request.now.item) (λ item. Give (updated c.args.request.now c.args.date item)) c.in_ok-found.ensures.keeps
