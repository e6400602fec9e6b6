use Rattle.std.proofs.Common.{rules, ◌≡◌, subst, sym}
use Rattle.board_steps.specs.Board.{Board}
use Rattle.read_set.specs.Plans.{Planned}
use Rattle.speculate.specs.Playing.{Halts, Plays}
use Rattle.replay_run.specs.BySteps.{FailsBySteps, attempts_on, first_board}
use Rattle.replay_run.specs.Faults.{board_fault}
use Rattle.replay_run.specs.Judgements.{Accepted}
use Rattle.replay_run.specs.OneThread.{IsOutputBy}
use Rattle.replay_run.proofs.Stepping.{stopped}
use Rattle.replay_run.proofs.by_steps.run_steps.Goals as goal

pub returns-in-Err : goal.returns-in-Err
returns-in-Err g c =
    let j : Accepted = record { plan = c.args.plan.now; lines = c.args.journal.now } in
    let workers = c.args.workers in
    let halts =
    subst (λ (plan : Planned). Halts plan (first_board plan workers) c.args.steps.now c.in-Err.field-0 c.play.new.board) (sym c.requires.named)
    (subst (λ (b : Board). Halts g.J.PlanName.plan b c.args.steps.now c.in-Err.field-0 c.play.new.board) c.in_ok-board.ensures c.in-Err.ensures.halt) in
    let is_fault : c.from.result ≡ board_fault c.in-Err.field-0.fault = search rules in
    subst (FailsBySteps j workers c.args.steps.now) (sym is_fault) (stopped j workers c.args.steps.now c.in-Err.field-0 c.play.new.board halts)

pub returns-in-Ok : goal.returns-in-Ok
returns-in-Ok g c =
    let workers = c.args.workers in
    let after = c.play.new.board in
    let played =
    subst (λ (plan : Planned). Plays plan (first_board plan workers) c.args.steps.now after) (sym c.requires.named)
    (subst (λ (b : Board). Plays g.J.PlanName.plan b c.args.steps.now after) c.in_ok-board.ensures c.in_default.ensures.all) in
    let output =
    subst (λ (b : Board). IsOutputBy c.args.plan.now c.args.journal.now (attempts_on c.args.plan.now b) c.in_ok-collect_output-in-Ok.field-0)
    c.in-Ok.ensures.finished.0 c.in_ok-collect_output-in-Ok.ensures in
    (after, played, c.in-Ok.ensures.finished.1, output)
