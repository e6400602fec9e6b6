use Rattle.std.proofs.Common.{length, subst}
use Rattle.std.proofs.lemmas.Result.{IfOk-weaker}
use Rattle.result_report.specs.Report.{answers_behind, line_results}
use Rattle.result_report.specs.Stretches.{between}
use Rattle.result_report.specs.Tables.{AreTexts}
use Rattle.result_report.proofs.Once.{each-once}
use Rattle.result_report.proofs.Parts.{between-whole, few-line_results}
use Rattle.result_report.proofs.texts.report.Goals as goal

pub returns-clause-texts : goal.returns-clause-texts
returns-clause-texts c =
    let lines = c.args.journal.now in
    let all = line_results lines c.args.plan.now.readings (answers_behind c.args.outcome.now.answers.items) in
    let tells = rw (c.lines-lines.ensures.lines, c.as_slice-answers.ensures.value) at c.in_ok-write_lines.ensures in
    rw (← c.requires.planned)
    (IfOk-weaker c.finish.result _ _ (λ t h. subst (λ ls. AreTexts ls t) (between-whole (length lines) all (few-line_results lines c.args.plan.now.readings (answers_behind c.args.outcome.now.answers.items))) (h (between 0 (length lines) all) tells)) c.finish.ensures)

pub returns-clause-each_once : goal.returns-clause-each_once
returns-clause-each_once c =
    IfOk-weaker c.finish.result _ _ (λ t made. each-once c.args.journal.now (answers_behind c.args.outcome.now.answers.items) t c.requires.answered made) (returns-clause-texts c)
