use Rattle.read_set.specs.Lookups.{patron_at}
use Rattle.read_set.specs.Blocks.{block_rule, block_rule_known}
use Rattle.read_set.specs.WholeMap.{block}
use Rattle.read_set.proofs.Following.{goes_on, meant_by}
use Rattle.read_set.proofs.WholeMaps.{asking-gives}
use Rattle.read_set.proofs.Gaining.{gains_first, gains_then}
use Rattle.message_meaning.proofs.blocks.block.Goals as goal

pub returns-clause-gives : goal.returns-clause-gives
unfolding block_rule
returns-clause-gives g c =
    goes_on _ _ (patron_at c.args.policy.now c.args.id.now) (λ patron. block_rule_known c.args.policy.now c.args.blocks c.args.id.now c.args.date patron) c.in_ok-member.member _
    c.block_any.ensures.keeps.grows c.in_ok-member.ensures.gives c.block_any.ensures.gives

pub returns-clause-means : goal.returns-clause-means
returns-clause-means g c =
    meant_by (g.S.Source.has c.block_any.new.source) (block_rule c.args.policy.now c.args.blocks c.args.id.now c.args.date)
    (block c.args.policy.now c.args.blocks c.args.id.now c.args.date)
    (asking-gives.blocks c.args.policy.now c.args.blocks c.args.id.now c.args.date)
    c.block_any.result (returns-clause-gives g c)

pub returns-clause-keeps : goal.returns-clause-keeps
unfolding block_rule
returns-clause-keeps g c =
    gains_then _ _ _ (patron_at c.args.policy.now c.args.id.now) (λ patron. block_rule_known c.args.policy.now c.args.blocks c.args.id.now c.args.date patron) c.in_ok-member.member
    c.in_ok-member.ensures.gives c.in_ok-member.ensures.keeps c.block_any.ensures.keeps

pub returns-in_err-member-clause-keeps : goal.returns-in_err-member-clause-keeps
unfolding block_rule
returns-in_err-member-clause-keeps g c =
    gains_first _ _ (patron_at c.args.policy.now c.args.id.now) (λ patron. block_rule_known c.args.policy.now c.args.blocks c.args.id.now c.args.date patron) c.in_err-member.ensures.keeps
