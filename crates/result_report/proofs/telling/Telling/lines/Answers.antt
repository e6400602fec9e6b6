use Rattle.std.proofs.Common.{◌≡◌, ◌∙◌, ◌⊎◌, ℕ, None, refl, ◌+◌, ◌++◌, ◌∷◌, [], List, Option, length, take, append_assoc, sym, ap, subst, arith, min}
use Rattle.std.proofs.lemmas.List.{length-append, length-take, take_all, take_more}
use Rattle.std.specs.Prelude.{option_copied, slice_get}
use Rattle.sip_answer.specs.declared.answer.Answer.{Answer}
use Rattle.result_report.specs.Report.{LineResult, line_results}
use Rattle.result_report.specs.Tellings.{Gained, Tells}
use Rattle.result_report.proofs.Further.{few-results, results-end, results-more}
use Rattle.result_report.proofs.TellingLines.{has-room, tells-more}
use Rattle.result_report.proofs.telling.Telling.lines.Goals as goal
use Rattle.result_report.proofs.telling.Telling.lines.Goals.{in-Some+in_ok-line, in_default}

pub line-requires : goal.line-requires
line-requires c =
    let (before, count, told) = c.requires.told in
    let so = before ++ take c.loop-i.i c.args.answers.now in
    let all = line_results c.args.journal.now c.args.plan.now.readings so in
    let few = few-results c.args.journal.now c.args.plan.now.readings so in
    let many : length so ≡ length before + length (take c.loop-i.i c.args.answers.now) = length-append before (take c.loop-i.i c.args.answers.now) in
    let some : length (take c.loop-i.i c.args.answers.now) ≡ min c.loop-i.i (length c.args.answers.now) = length-take c.loop-i.i c.args.answers.now in
    let at = c.args.told + c.loop-i.i in
    has-room at all c.loop-i.self (omega (arith, c.loop-i-test.true, c.requires.few))
    (subst (λ (ls : List LineResult). Tells ls c.loop-i.self) (sym (take_all at all (omega (arith, few, many, some, count)))) (c.loop-i.invariant before count told))

pub loop-i-preserved : goal.loop-i-preserved
loop-i-preserved c before count told =
    let i = c.loop-i.i in
    let answers = c.args.answers.now in
    let a = c.index-answers-i.result in
    let so = before ++ take i answers in
    let many : length so ≡ c.args.told + i =
    let both = length-append before (take i answers) in
    let some = length-take i answers in
    omega (arith, both, some, count, c.loop-i-test.true) in
    let next : before ++ take (i + 1) answers ≡ so ++ a ∷ [] =
    ap (λ (more : List (Option Answer)). before ++ more) (take_more answers i a c.loop-i-test.true ∙ ap (λ (x : Option Answer). take i answers ++ x ∷ []) (sym c.index-answers-i.is))
    ∙ sym (append_assoc before (take i answers) (a ∷ [])) in
    let lines = c.args.journal.now in
    let readings = c.args.plan.now.readings in
    let was = c.loop-i.invariant before count told in
    elim c.match-line_at.branch [
      | in-Some+in_ok-line w ↦
          let l = w.in-Some.line.now in
          let r = w.in-Some.reading.now in
          let here = ap (λ ls. slice_get ls (length so)) (sym c.lines-lines.ensures.lines) ∙ ap (slice_get c.lines-lines.result.now) many ∙ w.in-Some.ensures.some.0 in
          let read = ap (slice_get readings) many ∙ w.in-Some.ensures.some.1 in
          let answer : option_copied w.as_ref.result ≡ a = w.as_ref.ensures.value in
          let told = subst (λ (x : Option Answer). Gained (l, r, x) c.loop-i.self w.line.new.self) answer w.in_ok-line.ensures in
          rw w.self-is (subst (λ (ls : List LineResult). Tells ls w.line.new.self)
          (sym (results-more lines readings so l r a here read) ∙ ap (line_results lines readings) (sym next))
          (tells-more (line_results lines readings so) (l, r, a) c.loop-i.self w.line.new.self was told))
      | in_default w ↦
          let lacks = subst (λ ls. (slice_get ls (c.args.told + i) ≡ None) ⊎ (slice_get readings (c.args.told + i) ≡ None)) c.lines-lines.ensures.lines (w.in_default.ensures.none refl) in
          let end = subst (λ (n : ℕ). (slice_get lines n ≡ None) ⊎ (slice_get readings n ≡ None)) (sym many) lacks in
          rw w.self-is (subst (λ (ls : List LineResult). Tells ls c.loop-i.self) (sym (ap (line_results lines readings) next ∙ results-end lines readings so a end)) was)
    ]
