use Rattle.std.proofs.Common.{◌<◌, length, sym, subst, take, arith}
use Rattle.std.proofs.lemmas.List.{take_more}
use Rattle.speculate.specs.Playing.{Plays}
use Rattle.speculate.proofs.Plays.{plays_more}
use Rattle.speculate.proofs.playing.play.Goals as goal

pub loop-done-preserved : goal.loop-done-preserved
loop-done-preserved g c =
    let plan = g.J.PlanName.plan in
    let steps = c.args.steps.now in
    let done = c.loop-done.done in
    let lt : done < length steps = omega arith in
    subst (λ xs. Plays plan c.args.board.now xs c.act.new.board) (sym (take_more steps done _ lt))
    (plays_more plan c.args.board.now c.loop-done.board c.act.new.board (take done steps) _ c.loop-done.invariant c.in_default.ensures.goes)
