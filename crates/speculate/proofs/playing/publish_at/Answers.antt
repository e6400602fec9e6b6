use Rattle.std.proofs.Common.{option_map, subst, inl}
use Rattle.board_steps.specs.Steps.Call.{Publish}
use Rattle.speculate.specs.Needed.{IsToPublish}
use Rattle.board_lines.specs.Notes.{contents_at}
use Rattle.speculate.specs.declared.steps.Step.TheVariants as steps
use Rattle.speculate.proofs.Plays.{call_judged, ends, publish_ends, publish_idle}
use Rattle.speculate.proofs.playing.publish_at.Goals as goal

pub returns-in-None : goal.returns-in-None
returns-in-None g c =
    let is = subst (λ place. IsToPublish g.J.PlanName.plan c.args.board.now c.args.worker (option_map contents_at place)) c.in-None.is c.requires in
    record { goes = publish_idle g.J.PlanName.plan c.args.board.now c.args.worker is; refused = tt }

pub returns-in-Some : goal.returns-in-Some
returns-in-Some g c =
    let plan = g.J.PlanName.plan in
    let b = c.args.board.now in
    let w = c.args.worker in
    let new = c.publish.new.self in
    let v = contents_at c.in-Some.place in
    let is = subst (λ place. IsToPublish plan b w (option_map contents_at place)) c.in-Some.is c.requires in
    ends plan b new (steps.Publish w) c.ended.result
    (publish_ends plan b new w v c.ended.result (λ grows. inl is.0) is.1 is.2
    (call_judged plan b new (Publish w v) c.publish.result c.ended.result c.publish.ensures c.ended.ensures))
