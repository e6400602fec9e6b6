use Rattle.board_steps.specs.Steps.Call.{Look}
use Rattle.speculate.specs.declared.steps.Step.TheVariants as steps
use Rattle.speculate.proofs.Plays.{call_judged, ends, look_ends, look_rests, look_wants}
use Rattle.speculate.proofs.playing.look.Goals as goal

pub returns-in_default : goal.returns-in_default
returns-in_default g c = record {
  goes = look_rests g.J.PlanName.plan c.args.board.now c.args.worker c.in_ok-next.next c.in_ok-next.ensures.next c.in_default.ensures;
  refused = tt;
}

pub returns : goal.returns
returns g c =
    let plan = g.J.PlanName.plan in
    let b = c.args.board.now in
    let w = c.args.worker in
    let new = c.look.new.self in
    ends plan b new (steps.Look w) c.ended.result
    (look_ends plan b new w c.in-Some.key c.ended.result (look_wants plan b w c.in_ok-next.next c.in-Some.key c.in_ok-next.ensures.next c.in-Some.ensures)
    (call_judged plan b new (Look w c.in-Some.key) c.look.result c.ended.result c.look.ensures c.ended.ensures))
