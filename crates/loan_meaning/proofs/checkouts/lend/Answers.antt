use Rattle.std.proofs.Common.{refl, subst, sym}
use Rattle.std.proofs.lemmas.Result.{err_from_is_err_and}
use Rattle.read_set.specs.Asks.{Give}
use Rattle.read_set.specs.Stops.{Follows}
use Rattle.read_set.specs.Checkouts.{lending_tests, lending_rule_by, lending_rule, other_at, lending_of, lending_made}
use Rattle.read_set.proofs.Following.{follow_then, goes_on, stop_next, stop_then}
use Rattle.read_set.proofs.Gaining.{gains_first, gains_then}
use Rattle.loan_meaning.proofs.checkouts.lend.Goals as goal

pub returns-in_err-verdict-clause-keeps : goal.returns-in_err-verdict-clause-keeps
unfolding lending_rule
returns-in_err-verdict-clause-keeps g c =
    gains_first _ _ (lending_tests c.args.asked.now.request c.args.member c.args.article) (λ verdict. lending_rule_by c.args.asked.now.policy.now c.args.asked.now.number c.args.asked.now.request c.args.asked.now.date c.args.member c.args.article verdict) c.in_err-verdict.ensures.keeps

pub returns-in-Refused-clause-gives : goal.returns-in-Refused-clause-gives
unfolding lending_rule
returns-in-Refused-clause-gives g c =
    goes_on _ _ (lending_tests c.args.asked.now.request c.args.member c.args.article) (λ verdict. lending_rule_by c.args.asked.now.policy.now c.args.asked.now.number c.args.asked.now.request c.args.asked.now.date c.args.member c.args.article verdict) c.in_ok-verdict.verdict _
    (λ k r e. e) c.in_ok-verdict.ensures.gives (rw c.in-Refused.is c.refuse.ensures)

pub returns-in-Refused-clause-keeps : goal.returns-in-Refused-clause-keeps
unfolding lending_rule
returns-in-Refused-clause-keeps g c =
    gains_first _ _ (lending_tests c.args.asked.now.request c.args.member c.args.article) (λ verdict. lending_rule_by c.args.asked.now.policy.now c.args.asked.now.number c.args.asked.now.request c.args.asked.now.date c.args.member c.args.article verdict) c.in_ok-verdict.ensures.keeps

pub returns-in_err-other-clause-gives : goal.returns-in_err-other-clause-gives
unfolding lending_rule lending_of
returns-in_err-other-clause-gives g c =
    let p = err_from_is_err_and c.from_residual-in_err-other.result c.from_residual-in_err-other.ensures.1 in
    let first = rw c.get.ensures at c.in_err-other.ensures.gives in
    rw (p.1, p.2) (stop_next _ _ (lending_tests c.args.asked.now.request c.args.member c.args.article) (λ verdict. lending_rule_by c.args.asked.now.policy.now c.args.asked.now.number c.args.asked.now.request c.args.asked.now.date c.args.member c.args.article verdict) c.in_ok-verdict.verdict _
    c.in_err-other.ensures.keeps.grows c.in_ok-verdict.ensures.gives
    (rw c.in-Made.is (stop_then _ (other_at c.args.asked.now.policy.now c.args.asked.now.request.patron c.args.article.item.loan) (λ other. Give (lending_made c.args.asked.now.policy.now c.args.asked.now.number c.args.asked.now.request c.args.asked.now.date c.args.member c.args.article other)) _ first)))

pub returns-in_err-other-clause-keeps : goal.returns-in_err-other-clause-keeps
unfolding lending_rule lending_of
returns-in_err-other-clause-keeps g c =
    let first = rw c.get.ensures at c.in_err-other.ensures.keeps in
    gains_then _ _ _ (lending_tests c.args.asked.now.request c.args.member c.args.article) (λ verdict. lending_rule_by c.args.asked.now.policy.now c.args.asked.now.number c.args.asked.now.request c.args.asked.now.date c.args.member c.args.article verdict) c.in_ok-verdict.verdict
    c.in_ok-verdict.ensures.gives c.in_ok-verdict.ensures.keeps
    (rw c.in-Made.is (gains_first _ _ (other_at c.args.asked.now.policy.now c.args.asked.now.request.patron c.args.article.item.loan) (λ other. Give (lending_made c.args.asked.now.policy.now c.args.asked.now.number c.args.asked.now.request c.args.asked.now.date c.args.member c.args.article other)) first))

pub returns-clause-gives : goal.returns-clause-gives
unfolding lending_rule lending_of
returns-clause-gives g c =
    let first = rw c.get.ensures at c.in_ok-other.ensures.gives in
    let made = lending_made c.args.asked.now.policy.now c.args.asked.now.number c.args.asked.now.request c.args.asked.now.date c.args.member c.args.article c.in_ok-other.other in
    let reached = follow_then _ (other_at c.args.asked.now.policy.now c.args.asked.now.request.patron c.args.article.item.loan) (λ other. Give (lending_made c.args.asked.now.policy.now c.args.asked.now.number c.args.asked.now.request c.args.asked.now.date c.args.member c.args.article other)) c.in_ok-other.other made first refl in
    goes_on _ _ (lending_tests c.args.asked.now.request c.args.member c.args.article) (λ verdict. lending_rule_by c.args.asked.now.policy.now c.args.asked.now.number c.args.asked.now.request c.args.asked.now.date c.args.member c.args.article verdict) c.in_ok-verdict.verdict _
    c.in_ok-other.ensures.keeps.grows c.in_ok-verdict.ensures.gives (rw c.in-Made.is (subst (Follows c.make_loan.result) (sym reached) c.make_loan.ensures))

pub returns-clause-keeps : goal.returns-clause-keeps
unfolding lending_rule lending_of
returns-clause-keeps g c =
    let first = rw c.get.ensures at c.in_ok-other.ensures.keeps in
    gains_then _ _ _ (lending_tests c.args.asked.now.request c.args.member c.args.article) (λ verdict. lending_rule_by c.args.asked.now.policy.now c.args.asked.now.number c.args.asked.now.request c.args.asked.now.date c.args.member c.args.article verdict) c.in_ok-verdict.verdict
    c.in_ok-verdict.ensures.gives c.in_ok-verdict.ensures.keeps
    (rw c.in-Made.is (gains_first _ _ (other_at c.args.asked.now.policy.now c.args.asked.now.request.patron c.args.article.item.loan) (λ other. Give (lending_made c.args.asked.now.policy.now c.args.asked.now.number c.args.asked.now.request c.args.asked.now.date c.args.member c.args.article other)) first))
