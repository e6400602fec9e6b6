use Rattle.std.proofs.Common.{◌≡◌, ◌<◌, ◌≤◌, ◌^◌, ◌+◌, ◌-◌, ◌*◌, ◌/◌, ℕ, [], length, take, subst, sym, ap, ◌∙◌, inl, inr, arith, rules}
use Rattle.std.specs.Prelude.{IfOk}
use Rattle.std.specs.List.{AllZip, range_with_len}
use Rattle.std.proofs.lemmas.Bool.{cases_lt}
use Rattle.std.proofs.lemmas.List.{take_all}
use Rattle.rayon.specs.Numbers.{nat_range}
use Rattle.read_set.specs.Plans.{readings_of}
use Rattle.result_report.specs.Report.{answers_behind, line_results}
use Rattle.result_report.specs.Stretches.{AreParts, stretch}
use Rattle.result_report.specs.Tables.{AreTexts}
use Rattle.result_report.proofs.Once.{each-once}
use Rattle.result_report.proofs.Parts.{are-parts, few-line_results, taken-same}
use Rattle.result_report.proofs.texts.report_parallel.Goals as goal

pub loop-batch-init : goal.loop-batch-init
loop-batch-init g c =
    let none = c.in_ok-whole.ensures [] c.in_ok-new.ensures in
    let answers : c.len.result ≡ length c.in_ok-whole.whole.answers.items = search rules in
    let report : c.len-2.result ≡ length c.in_ok-whole.whole.report.items = search rules in
    let passed : c.len-3.result ≡ length c.in_ok-whole.whole.passed.items = search rules in
    record {
      heads = record {
        answers = rw none.answers at answers;
        report = rw none.report at report;
        passed = rw none.passed at passed;
      };
      told = record { answers = c.in_ok-reserve.ensures.items ∙ none.answers; report = none.report; passed = none.passed; sizes = none.sizes };
    }

pub loop-batch-preserved : goal.loop-batch-preserved
loop-batch-preserved g c =
    let lines = c.lines-lines.result.now in
    let answers = c.as_slice-answers.result.now in
    let all = line_results lines c.args.plan.now.readings (answers_behind answers) in
    let few = few-line_results lines c.args.plan.now.readings (answers_behind answers) in
    let small : length lines < 2 ^ 64 = search rules in
    let told = c.loop-batch.batch * 8 in
    let h = c.in_ok-parts.ensures in
    let given = h.1 in
    let ends = c.into_par_iter.ensures in
    let run = ap (λ m. m.base) c.with_min_len.ensures.base ∙ c.map.ensures.base in
    let closure = ap (λ m. m.f) c.with_min_len.ensures.base ∙ c.map.ensures.f in
    let each = subst (λ f. AllZip (λ (k : ℕ) r. IfOk r (AreTexts (stretch k (line_results f.1.now f.2.now.readings (answers_behind f.3.now))))) given.0 h.0) closure given.2 in
    let n = c.min.result - told in
    let positions : given.0 ≡ range_with_len told n = given.1 ∙ (λ i. nat_range ((run i).start) ((run i).end)) ∙ (λ i. nat_range (ends.0 i) (ends.1 i)) in
    let (ys, read, items) = rw c.in_ok-parts-2.was at h.2 in
    let parts = are-parts all told n given.0 ys _ positions (subst (λ rs. AllZip (λ (k : ℕ) r. IfOk r (AreTexts (stretch k all))) given.0 rs) read each) in
    let before = c.loop-batch.invariant in
    let made = c.in_ok-whole-2.ensures all told (omega arith) before.heads before.told (subst (λ ps. AreParts told all ps) (sym items) parts.1) in
    let many : length c.in_ok-parts-2.field-0.items ≡ n = ap length items ∙ parts.0 in
    let same : take ((told + length c.in_ok-parts-2.field-0.items) * 4096) all ≡ take ((c.loop-batch.batch + 1) * 8 * 4096) all = taken-same all _ _ (elim (cases_lt (told + 8) (length lines / 4096 + 1)) [
      | inl full ↦ inl (omega (arith, many, full, c.min.ensures))
      | inr last ↦ inr (omega (arith, many, last, few, c.min.ensures), omega (arith, few, last))
    ]) in
    record {
      heads = before.heads;
      told = subst (λ ls. AreTexts ls c.in_ok-whole-2.whole) same made;
    }

pub returns-clause-texts : goal.returns-clause-texts
returns-clause-texts g c =
    let lines = c.lines-lines.result.now in
    let answers = c.as_slice-answers.result.now in
    let all = line_results lines c.args.plan.now.readings (answers_behind answers) in
    let few = few-line_results lines c.args.plan.now.readings (answers_behind answers) in
    let over : (length lines / 4096 + 1) / 8 + 1 ≤ c.loop-batch.batch = search rules in
    let same : all ≡ line_results c.args.journal.now (readings_of c.args.journal.now) (answers_behind c.args.outcome.now.answers.items) =
    λ i. line_results (c.lines-lines.ensures.lines i) (c.requires.planned i) (answers_behind (c.as_slice-answers.ensures.value i)) in
    subst (λ ls. AreTexts ls c.loop-batch.whole) (take_all (c.loop-batch.batch * 8 * 4096) all (omega arith) ∙ same) c.loop-batch.invariant.told

pub returns-clause-each_once : goal.returns-clause-each_once
returns-clause-each_once g c = each-once c.args.journal.now (answers_behind c.args.outcome.now.answers.items) c.loop-batch.whole c.requires.answered (returns-clause-texts g c)
