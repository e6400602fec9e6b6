use Rattle.std.proofs.Common.{OnOk, subst, sym}
use Rattle.board_steps.specs.Steps.Call.{Check, Commit, Take}
use Rattle.speculate.specs.Playing.{Goes}
use Rattle.speculate.specs.declared.steps.Step.{Step}
use Rattle.speculate.specs.declared.steps.Step.TheVariants as steps
use Rattle.speculate.proofs.Plays.{call_judged, check_ends, commit_ends, ends_well, take_ends}
use Rattle.speculate.proofs.playing.act.Goals as goal

pub returns-in-Take-clause-goes : goal.returns-in-Take-clause-goes
returns-in-Take-clause-goes g c =
    let plan = g.J.PlanName.plan in
    let b = c.args.board.now in
    let new = c.take.new.self in
    let w = c.in-Take.worker in
    let n = c.in-Take.line in
    subst (λ (step : Step). OnOk c.ended.result (Goes plan b step new)) (sym c.in-Take.is)
    (ends_well plan b new (steps.Take w n) c.ended.result
    (take_ends plan b new w n c.ended.result (call_judged plan b new (Take w n) c.take.result c.ended.result c.take.ensures c.ended.ensures)))

pub returns-in-Check-clause-goes : goal.returns-in-Check-clause-goes
returns-in-Check-clause-goes g c =
    let plan = g.J.PlanName.plan in
    let b = c.args.board.now in
    let new = c.check.new.self in
    let w = c.in-Check.worker in
    let n = c.in-Check.line in
    subst (λ (step : Step). OnOk c.ended-in-Check.result (Goes plan b step new)) (sym c.in-Check.is)
    (ends_well plan b new (steps.Check w n) c.ended-in-Check.result
    (check_ends plan b new w n c.ended-in-Check.result (call_judged plan b new (Check w n) c.check.result c.ended-in-Check.result c.check.ensures c.ended-in-Check.ensures)))

pub returns-in-Commit-clause-goes : goal.returns-in-Commit-clause-goes
returns-in-Commit-clause-goes g c =
    let plan = g.J.PlanName.plan in
    let b = c.args.board.now in
    let new = c.commit.new.self in
    let n = c.in-Commit.line in
    subst (λ (step : Step). OnOk c.ended-in-Commit.result (Goes plan b step new)) (sym c.in-Commit.is)
    (ends_well plan b new (steps.Commit n) c.ended-in-Commit.result
    (commit_ends plan b new n c.ended-in-Commit.result (call_judged plan b new (Commit n) c.commit.result c.ended-in-Commit.result c.commit.ensures c.ended-in-Commit.ensures)))
