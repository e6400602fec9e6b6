use Rattle.std.proofs.Common.{◌≡◌, ◌∙◌, ◌∷◌, [], ◌++◌, map, ap, sym, refl, subst, option_copied, rules}
use Rattle.std.specs.List.{range_with_len}
use Rattle.std.proofs.lemmas.List.{map-append}
use Rattle.std.proofs.lemmas.List.FromFn.{map-range_with_len_more}
use Rattle.result_report.specs.Report.{answers_behind}
use Rattle.result_report.proofs.Collected.{numbers}
use Rattle.result_report.proofs.ends.collect.Goals as goal

pub loop-i-preserved : goal.loop-i-preserved
loop-i-preserved g c = record {
  answers = ap answers_behind c.in_ok-push.ensures.items
      ∙ map-append option_copied c.loop-i.answers.items (c.answer.result ∷ [])
      ∙ (λ t. c.loop-i.invariant.answers t ++ c.answer.ensures t ∷ [])
      ∙ sym (map-range_with_len_more (g.E.End.answered c.args.end.now) c.first-first.result c.loop-i.i _ refl);
  attempts = c.in_ok-push-2.ensures.items
      ∙ (λ t. c.loop-i.invariant.attempts t ++ c.attempt.ensures t ∷ [])
      ∙ sym (map-range_with_len_more (g.E.End.attempted c.args.end.now) c.first-first.result c.loop-i.i _ refl);
}

pub returns-clause-answers : goal.returns-clause-answers
returns-clause-answers g c =
    let done : c.loop-i.i ≡ c.len-count.result = search rules in
    subst (λ n. answers_behind c.loop-i.answers.items ≡ map (g.E.End.answered c.args.end.now) (range_with_len c.first-first.result n)) done c.loop-i.invariant.answers
    ∙ ap (map (g.E.End.answered c.args.end.now))
    (numbers _ c.readings.result.now (g.E.End.planned c.args.end.now) c.plan.result.now c.plan-2.result.now _ _ c.plan.ensures c.plan-2.ensures c.first-first.ensures c.len-count.ensures.len c.readings.ensures.readings)

pub returns-clause-attempts : goal.returns-clause-attempts
returns-clause-attempts g c =
    let done : c.loop-i.i ≡ c.len-count.result = search rules in
    subst (λ n. c.loop-i.attempts.items ≡ map (g.E.End.attempted c.args.end.now) (range_with_len c.first-first.result n)) done c.loop-i.invariant.attempts
    ∙ ap (map (g.E.End.attempted c.args.end.now))
    (numbers _ c.readings.result.now (g.E.End.planned c.args.end.now) c.plan.result.now c.plan-2.result.now _ _ c.plan.ensures c.plan-2.ensures c.first-first.ensures c.len-count.ensures.len c.readings.ensures.readings)
