use Rattle.std.proofs.Common.{◌≡◌, ◌∙◌, ◌<◌, ◌^◌, ◌+◌, ◌++◌, [], List, Option, ap, length, sym, subst, arith, rules}
use Rattle.std.proofs.lemmas.List.{append-nil}
use Rattle.circ_records.specs.Records.{Entries, record_at}
use Rattle.circ_records.specs.declared.key.Key.{Key}
use Rattle.read_set.specs.Plans.{Planned}
use Rattle.read_set.specs.Replay.{GivesAt, after}
use Rattle.sip_answer.specs.declared.answer.Answer.{Answer}
use Rattle.replay_run.specs.Answers.{first_answers}
use Rattle.replay_run.specs.InOrder.{HasReplayed}
use Rattle.replay_run.proofs.Replayed.{answers-next, records-next, written-over}
use Rattle.replay_run.proofs.in_order.replay_span.Goals as goal

pub loop-i-init : goal.loop-i-init
loop-i-init g c =
    let none : c.reserve.new.self.items ≡ [] = c.in_ok-reserve.ensures.items ∙ c.clear.ensures.items in
    record {
      records = c.requires.records;
      answers = sym (ap (λ (given : List (Option Answer)). first_answers g.J.PlanName.plan c.args.from ++ given) none ∙ append-nil (first_answers g.J.PlanName.plan c.args.from));
    }

pub overflow_add-line : goal.overflow_add-line
overflow_add-line g c =
    let end : c.numbers-numbers.result.end < 2 ^ 64 = search rules in
    let same : length c.args.plan.now.readings ≡ length g.J.PlanName.plan.readings = ap (λ (q : Planned). length q.readings) c.requires.bare in
    omega (arith, end, same, c.numbers-numbers.ensures.start, c.numbers-numbers.ensures.end, c.loop-i-test.true, c.requires.within)

pub loop-i-preserved : goal.loop-i-preserved
loop-i-preserved g c =
    let plan : Planned = g.J.PlanName.plan in
    let i = c.loop-i.i in
    let so = c.loop-i.invariant in
    let line = c.numbers-numbers.result.start + i in
    let at : line ≡ plan.first + i = ap (λ first. first + i) (c.numbers-numbers.ensures.start ∙ ap (λ (q : Planned). q.first) c.requires.bare) in
    let same : (k : Key) → record_at c.expect.new.live k ≡ after plan i k = λ k. ap (λ (live : Entries). record_at live k) c.in_ok-expect.ensures ∙ so.records k in
    let effect = c.in_ok-writes.field-0 in
    let gives : GivesAt plan line (after plan i) effect = subst (λ (q : Planned). GivesAt q line (after plan i) effect) c.requires.bare (c.in_ok-writes.ensures.gives (after plan i) same) in
    let stands = written-over plan line effect.writes (record_at c.effect_of.new.live) (after plan i) (record_at c.put.new.self) (λ k. c.in_ok-writes.ensures.same k ∙ same k) c.in_ok-put.ensures gives.0 in
    record {
      records = records-next plan i line (record_at c.put.new.self) at stands;
      answers = answers-next plan c.args.from i line c.loop-i.answers.items effect.answer at so.answers gives.1
          ∙ ap (λ (given : List (Option Answer)). first_answers plan c.args.from ++ given)
          (sym c.in_ok-push.ensures.items);
    }

pub returns : goal.returns
returns g c =
    let end : c.loop-i.i ≡ c.args.to = omega (arith, c.loop-i-test.false, c.loop-i.auto.i-end c.requires.rises) in
    subst (λ n. HasReplayed g.J.PlanName.plan c.args.from n (record { live = c.loop-i.live; answers = c.loop-i.answers })) end c.loop-i.invariant
