use Rattle.std.proofs.Common.{sym, ap, ◌∙◌, option_copied}
use Rattle.std.specs.Prelude.{slice_get}
use Rattle.result_report.specs.Report.{answers_behind}
use Rattle.result_report.proofs.Parts.{all-three, answer-at, lends, no-answer, no-answer-at, no-line, no-reading}
use Rattle.result_report.proofs.texts.result_at.Goals as goal

pub returns-in_err-line : goal.returns-in_err-line
returns-in_err-line c =
    let none = sym (ap option_copied c.in_err-line.was) ∙ lends c.args.lines.now c.args.position c.get.result c.get.ensures.lookup in
    rw c.from_residual.ensures (no-line c.args.lines.now c.args.plan.now.readings (answers_behind c.args.answers.now) c.args.position none)

pub returns-in_err-reading : goal.returns-in_err-reading
returns-in_err-reading c =
    let none = sym (ap option_copied c.in_err-reading.was) ∙ c.get-2.ensures ∙ ap (λ rs. slice_get rs c.args.position) c.readings.ensures.readings in
    rw c.from_residual-in_err-reading.ensures (no-reading c.args.lines.now c.args.plan.now.readings (answers_behind c.args.answers.now) c.args.position none)

pub returns-in_err-answer : goal.returns-in_err-answer
returns-in_err-answer c =
    let none = sym (ap option_copied c.in_err-answer.was) ∙ lends c.args.answers.now c.args.position c.get-3.result c.get-3.ensures.lookup in
    rw c.from_residual-in_err-answer.ensures (no-answer c.args.lines.now c.args.plan.now.readings (answers_behind c.args.answers.now) c.args.position (no-answer-at c.args.answers.now c.args.position none))

pub returns : goal.returns
returns c =
    let line = sym (ap option_copied c.in_ok-line.was) ∙ lends c.args.lines.now c.args.position c.get.result c.get.ensures.lookup in
    let reading = sym (ap option_copied c.in_ok-reading.was) ∙ c.get-2.ensures ∙ ap (λ rs. slice_get rs c.args.position) c.readings.ensures.readings in
    let answer = sym (ap option_copied c.in_ok-answer.was) ∙ lends c.args.answers.now c.args.position c.get-3.result c.get-3.ensures.lookup in
    all-three c.args.lines.now c.args.plan.now.readings (answers_behind c.args.answers.now) c.args.position c.in_ok-line.line.now c.in_ok-reading.reading.now (option_copied c.in_ok-answer.answer.now) line reading
    (answer-at c.args.answers.now c.args.position c.in_ok-answer.answer.now answer)
