use Rattle.std.proofs.Common.{◌∙◌}
use Rattle.replay_run.proofs.Ended.{answered_index, unanswered_index}
use Rattle.replay_run.proofs.replay_end.ReplayEndEnd.answer.Goals as goal

pub returns-in-Some : goal.returns-in-Some
returns-in-Some c =
    let end = c.args.self.now in
    c.as_ref.ensures.value
    ∙ answered_index end.plan.now c.deref.result.now c.args.line c.first-first.result c.in-Some.answer.now (c.deref.ensures.value ∙ end.replays.answers) c.first-first.ensures
    c.if-line-first.false c.in-Some.ensures.lookup.0 c.in-Some.ensures.lookup.1

pub returns-in-None : goal.returns-in-None
returns-in-None c =
    let end = c.args.self.now in
    unanswered_index end.plan.now c.deref.result.now c.args.line c.first-first.result (c.deref.ensures.value ∙ end.replays.answers) c.first-first.ensures
    c.if-line-first.false c.in-None.ensures.lookup.0
