use Rattle.std.proofs.Common.{◌<◌, ◌^◌, ◌-◌, length, subst, arith, rules}
use Rattle.std.proofs.lemmas.Result.{IfOk-weaker}
use Rattle.result_report.specs.Report.{answers_behind, line_results}
use Rattle.result_report.specs.Stretches.{between}
use Rattle.result_report.specs.Tables.{AreTexts}
use Rattle.result_report.proofs.Parts.{few-line_results, stretch-between}
use Rattle.result_report.proofs.texts.write_stretch.Goals as goal

pub returns : goal.returns
returns c =
    let lines = c.args.lines.now in
    let all = line_results lines c.args.plan.now.readings (answers_behind c.args.answers.now) in
    let small : length lines < 2 ^ 64 = search rules in
    let few = few-line_results lines c.args.plan.now.readings (answers_behind c.args.answers.now) in
    let from = c.saturating_mul-from.result in
    let to = c.saturating_add.result in
    let same = stretch-between 4096 c.args.k from to (2 ^ 64 - 1) all (omega arith) c.saturating_mul-from.ensures c.saturating_add.ensures in
    IfOk-weaker c.finish.result _ _ (λ t h. subst (λ ls. AreTexts ls t) same (h (between from to all) c.in_ok-write_lines.ensures)) c.finish.ensures
