use Rattle.circ_records.specs.declared.key.Key.TheVariants as keys
use Rattle.read_set.specs.Lookups.{ask_after}
use Rattle.read_set.specs.RenewAlls.{turn_rule, turn_rule_known}
use Rattle.loan_meaning.proofs.Sums.{run_more}
use Rattle.read_set.specs.Known.{as_article}
use Rattle.read_set.proofs.Following.{goes_on}
use Rattle.read_set.proofs.Gaining.{gains_first, gains_then}
use Rattle.loan_meaning.proofs.renew_alls.take_turn.Goals as goal

pub turn_any-requires-clause-runs : goal.turn_any-requires-clause-runs
turn_any-requires-clause-runs g c = run_more _ _ c.args.asked.now.number c.args.fresh c.args.done c.args.sum.now c.in_ok-found.ensures.keeps.grows c.requires.runs

pub returns-clause-gives : goal.returns-clause-gives
unfolding turn_rule
returns-clause-gives g c =
    let found = rw c.in_ok-clone.ensures.cases at c.in_ok-found.ensures.gives in
    let second = rw c.known_item-article.ensures at c.turn_any.ensures.gives in
    goes_on _ _ (ask_after c.args.done.writes (keys.Item c.args.asked.now.request.item)) (λ found. turn_rule_known c.args.asked.now.policy.now c.args.asked.now.number c.args.asked.now.request c.args.asked.now.date c.args.done (as_article c.args.asked.now.policy.now found)) c.in_ok-found.found _
    c.turn_any.ensures.keeps.grows found second

pub returns-clause-keeps : goal.returns-clause-keeps
unfolding turn_rule
returns-clause-keeps g c =
    let found = rw c.in_ok-clone.ensures.cases at c.in_ok-found.ensures.gives in
    let asked = rw c.in_ok-clone.ensures.cases at c.in_ok-found.ensures.keeps in
    let second = rw c.known_item-article.ensures at c.turn_any.ensures.keeps in
    gains_then _ _ _ (ask_after c.args.done.writes (keys.Item c.args.asked.now.request.item)) (λ found. turn_rule_known c.args.asked.now.policy.now c.args.asked.now.number c.args.asked.now.request c.args.asked.now.date c.args.done (as_article c.args.asked.now.policy.now found)) c.in_ok-found.found
    found asked second

pub returns-in_err-found-clause-keeps : goal.returns-in_err-found-clause-keeps
unfolding turn_rule
returns-in_err-found-clause-keeps g c =
    let asked = rw c.in_ok-clone.ensures.cases at c.in_err-found.ensures.keeps in
    gains_first _ _ (ask_after c.args.done.writes (keys.Item c.args.asked.now.request.item)) (λ found. turn_rule_known c.args.asked.now.policy.now c.args.asked.now.number c.args.asked.now.request c.args.asked.now.date c.args.done (as_article c.args.asked.now.policy.now found)) asked
