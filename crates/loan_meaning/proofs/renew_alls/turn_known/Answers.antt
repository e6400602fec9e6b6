use Rattle.std.proofs.Common.{ap, sym, arith}
use Rattle.read_set.specs.Renewals.{renewal_tests}
use Rattle.read_set.specs.Asks.{Give, Done}
use Rattle.read_set.specs.RenewAlls.{turn_by}
use Rattle.loan_meaning.proofs.Sums.{run_turn}
use Rattle.read_set.proofs.Following.{follow_then}
use Rattle.read_set.proofs.Gaining.{gains_first}
use Rattle.loan_meaning.proofs.renew_alls.turn_known.Goals as goal

pub returns-clause-gives : goal.returns-clause-gives
returns-clause-gives g c =
    follow_then _ (renewal_tests c.args.done.writes c.args.asked.now.request c.args.done.member c.args.article) (λ verdict. Give (turn_by c.args.asked.now.policy.now c.args.asked.now.number c.args.asked.now.request c.args.asked.now.date c.args.article c.args.done verdict)) c.in_ok-verdict.verdict _
    c.in_ok-verdict.ensures.gives (ap Done (sym c.in_ok-end_turn.ensures.value))

pub returns-clause-runs : goal.returns-clause-runs
returns-clause-runs g c =
    let has = g.S.Source.has c.test_renewal.new.source in
    let more = rw (c.charge_by-charge.ensures, c.charge_of.ensures) at c.owed_with.ensures in
    rw c.in_ok-end_turn.ensures.value
    (run_turn has c.args.asked.now.policy.now c.args.asked.now.number c.args.asked.now.request c.args.asked.now.date c.args.article c.args.done c.in_ok-verdict.verdict c.args.fresh c.test_renewal.new.sum c.owed_with.result (let s = c.requires.small in omega arith)
    (record { known = c.in_ok-verdict.ensures.known; new = c.requires.runs.new }) more)

pub returns-in_err-verdict-clause-keeps : goal.returns-in_err-verdict-clause-keeps
returns-in_err-verdict-clause-keeps g c =
    gains_first _ _ (renewal_tests c.args.done.writes c.args.asked.now.request c.args.done.member c.args.article) (λ verdict. Give (turn_by c.args.asked.now.policy.now c.args.asked.now.number c.args.asked.now.request c.args.asked.now.date c.args.article c.args.done verdict)) c.in_err-verdict.ensures.keeps

pub returns-in_err-end_turn-clause-keeps : goal.returns-in_err-end_turn-clause-keeps
returns-in_err-end_turn-clause-keeps g c =
    gains_first _ _ (renewal_tests c.args.done.writes c.args.asked.now.request c.args.done.member c.args.article) (λ verdict. Give (turn_by c.args.asked.now.policy.now c.args.asked.now.number c.args.asked.now.request c.args.asked.now.date c.args.article c.args.done verdict)) c.in_ok-verdict.ensures.keeps

pub returns-clause-keeps : goal.returns-clause-keeps
returns-clause-keeps g c =
    gains_first _ _ (renewal_tests c.args.done.writes c.args.asked.now.request c.args.done.member c.args.article) (λ verdict. Give (turn_by c.args.asked.now.policy.now c.args.asked.now.number c.args.asked.now.request c.args.asked.now.date c.args.article c.args.done verdict)) c.in_ok-verdict.ensures.keeps
