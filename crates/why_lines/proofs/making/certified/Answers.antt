use Rattle.std.proofs.Common.{rules, ◌≡◌, refl, Ok}
use Rattle.replay_run.specs.OneThread.{IsOneThread}
use Rattle.why_lines.proofs.Replaying.{answers_otherwise, told_apart}
use Rattle.why_lines.proofs.making.certified.Goals as goal

pub returns-then-ne-clause-dropped : goal.returns-then-ne-clause-dropped
returns-then-ne-clause-dropped c =
    let one : IsOneThread c.args.case.inputs (Ok c.in-Some.output) = search rules in
    answers_otherwise c.args.case c.in-Some.output one (told_apart c.ne.result c.in-Some.output.answers.items c.args.case.answers.items c.ne.ensures c.if-ne.true)

pub returns-clause-certified : goal.returns-clause-certified
returns-clause-certified c =
    let one : IsOneThread c.args.case.inputs (Ok c.in-Some.output) = search rules in
    let same : c.in-Some.output.answers.items ≡ c.args.case.answers.items = search rules in
    (refl, (c.in-Some.output, one, same))
