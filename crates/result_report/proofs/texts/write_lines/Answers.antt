use Rattle.std.proofs.Common.{arith, ◌≡◌, ◌-◌, drop, inl, inr, subst, take}
use Rattle.std.proofs.lemmas.Bool.{cases_lt}
use Rattle.std.specs.Prelude.{option_copied}
use Rattle.result_report.specs.Report.{LineResult, answers_behind, line_results}
use Rattle.result_report.specs.Stretches.{between}
use Rattle.result_report.specs.Tellings.{Tells}
use Rattle.result_report.proofs.Parts.{between-last, between-next}
use Rattle.result_report.proofs.TellingLines.{has-room, tells-more}
use Rattle.result_report.proofs.texts.write_lines.Goals as goal
use Rattle.result_report.proofs.texts.write_lines.Goals.{in-Some+in_ok-line, in_default}

pub line-requires : goal.line-requires
line-requires c =
    let position = c.loop-position.position in
    let from = c.args.from in
    let begun = c.loop-position.auto.position in
    let ends = c.ranges.to in
    let all = line_results c.args.lines.now c.args.plan.now.readings (answers_behind c.args.answers.now) in
    has-room (position - from) (drop from all) c.loop-position.telling (omega (arith, c.loop-position-test.true, ends, begun)) c.loop-position.invariant.line_results

pub loop-position-preserved : goal.loop-position-preserved
loop-position-preserved c =
    let position = c.loop-position.position in
    let from = c.args.from in
    let begun = c.loop-position.auto.position in
    let all = line_results c.args.lines.now c.args.plan.now.readings (answers_behind c.args.answers.now) in
    record {
      line_results = elim c.match-result_at.branch [
        | in-Some+in_ok-line w ↦
            let line : LineResult = (w.in-Some.line.now, w.in-Some.reading.now, option_copied w.in-Some.answer) in
            rw w.telling-is (subst (λ lines. Tells lines w.line.new.self) (between-next from position all line begun w.in-Some.ensures)
            (tells-more (between from position all) line _ _ c.loop-position.invariant.line_results w.in_ok-line.ensures))
        | in_default w ↦
            rw w.telling-is (subst (λ lines. Tells lines c.loop-position.telling) (between-last from position all begun w.in_default.ensures) c.loop-position.invariant.line_results)
      ];
      begun = λ less. absurd (omega (arith, c.loop-position-test.true, begun));
    }

pub returns : goal.returns
returns c =
    let position = c.loop-position.position in
    let from = c.args.from in
    let to = c.args.to in
    let all = line_results c.args.lines.now c.args.plan.now.readings (answers_behind c.args.answers.now) in
    let begun = c.loop-position.auto.position in
    let same : position - from ≡ to - from = elim (cases_lt to from) [
      | inl less ↦ omega (arith, c.loop-position.invariant.begun less, less)
      | inr le ↦ omega (arith, le, c.loop-position-test.false, c.loop-position.auto.position-end le, begun)
    ] in
    subst (λ n. Tells (take n (drop from all)) c.loop-position.telling) same c.loop-position.invariant.line_results
