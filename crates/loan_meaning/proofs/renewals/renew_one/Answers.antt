use Rattle.std.proofs.Common.{[]}
use Rattle.read_set.specs.Asks.{Give}
use Rattle.read_set.specs.Renewals.{renewal_tests, renewal_rule, renewal_by}
use Rattle.read_set.proofs.Following.{goes_on}
use Rattle.read_set.proofs.Gaining.{gains_first}
use Rattle.loan_meaning.proofs.renewals.renew_one.Goals as goal

pub returns-clause-gives : goal.returns-clause-gives
unfolding renewal_rule
returns-clause-gives g c =
    let first = rw c.new-writes.ensures at c.in_ok-verdict.ensures.gives in
    goes_on _ _ (renewal_tests [] c.args.asked.now.request c.args.member c.args.article) (λ verdict. Give (renewal_by c.args.asked.now.policy.now c.args.asked.now.number c.args.asked.now.request c.args.asked.now.date c.args.member c.args.article verdict)) c.in_ok-verdict.verdict _
    (λ k r e. e) first c.renew_by.ensures

pub returns-clause-keeps : goal.returns-clause-keeps
unfolding renewal_rule
returns-clause-keeps g c =
    let first = rw c.new-writes.ensures at c.in_ok-verdict.ensures.keeps in
    gains_first _ _ (renewal_tests [] c.args.asked.now.request c.args.member c.args.article) (λ verdict. Give (renewal_by c.args.asked.now.policy.now c.args.asked.now.number c.args.asked.now.request c.args.asked.now.date c.args.member c.args.article verdict)) first

pub returns-in_err-verdict-clause-keeps : goal.returns-in_err-verdict-clause-keeps
unfolding renewal_rule
returns-in_err-verdict-clause-keeps g c =
    let first = rw c.new-writes.ensures at c.in_err-verdict.ensures.keeps in
    gains_first _ _ (renewal_tests [] c.args.asked.now.request c.args.member c.args.article) (λ verdict. Give (renewal_by c.args.asked.now.policy.now c.args.asked.now.number c.args.asked.now.request c.args.asked.now.date c.args.member c.args.article verdict)) first
