use Rattle.std.proofs.Common.{◌≡◌, ◌∙◌, ◌≤◌, ◌<◌, ◌+◌, ◌++◌, ◌^◌, List, Option, inl, inr, length, subst, sym, ap, arith, rules}
use Rattle.std.specs.Prelude.{OnOk}
use Rattle.std.proofs.lemmas.Bool.{cases_lt}
use Rattle.std.proofs.lemmas.List.{length-map}
use Rattle.journal_table.specs.Readings.{reading_at}
use Rattle.read_set.specs.Plans.{Planned}
use Rattle.sip_answer.specs.declared.answer.Answer.{Answer}
use Rattle.sip_reader.specs.declared.request.Reading.{Reading}
use Rattle.replay_run.specs.Answers.{first_answers}
use Rattle.replay_run.specs.InOrder.{HasReplayed, HasTold}
use Rattle.replay_run.proofs.Replayed.{come-to, length-first}
use Rattle.replay_run.proofs.in_order.InOrder.go_on.Goals as goal

pub join_mut-told_on-requires-after_bounds : goal.join_mut-told_on-requires-after_bounds
join_mut-told_on-requires-after_bounds g c κs within =
    let plan = g.J.PlanName.plan in
    let run = c.args.self in
    let given = c.as_slice-given.result.now in
    let bare = c.requires.bare in
    let alike : length c.args.plan.now.readings ≡ length plan.readings = ap (λ (q : Planned). length q.readings) bare in
    let many : length given ≡ length run.replaying.answers.items = ap length c.as_slice-given.ensures.value in
    let few : run.told + length given < 2 ^ 64 = omega (arith, many, alike, c.requires.so.within, c.readings.ensures.few) in
    let before = first_answers plan run.told in
    let before_told : length before ≡ run.told = length-first plan run.told in
    let told : HasTold c.args.plan.now c.args.journal.now before run.telling =
    subst (λ (q : Planned). HasTold q c.args.journal.now before run.telling) (sym bare) c.requires.so.told in
    let count : c.len-count.result ≡ length plan.readings =
    c.len-count.ensures.len ∙ sym (length-map c.readings.result.now reading_at) ∙ ap (λ (rs : List Reading). length rs) c.readings.ensures.readings ∙ alike in
    let rises : run.told + c.len.result ≤ c.min-to.result = omega (arith, count, c.requires.so.within, c.len.ensures, c.min-to.ensures, c.saturating_add.ensures) in
    let ends : c.min-to.result ≤ length plan.readings = omega (arith, count, c.min-to.ensures) in
    let records = c.requires.so.replayed.records in
    search rules

pub returns-clause-so : goal.returns-clause-so
returns-clause-so g c =
    let plan = g.J.PlanName.plan in
    let run = c.args.self in
    let lines = c.args.journal.now in
    let from = run.told + c.len.result in
    let given = c.as_slice-given.result.now in
    let replayed : OnOk c.join_mut-told_on.result.1 (HasReplayed plan from c.min-to.result c.replaying-2-1.given.0) = search rules in
    let done = rw c.in_ok-replayed.was at replayed in
    let telling : OnOk c.join_mut-told_on.result.0 ((before : List (Option Answer)) → length before ≡ run.told → HasTold c.args.plan.now lines before run.telling
    → HasTold c.args.plan.now lines (before ++ given) c.telling-2-1.given.0) = search rules in
    let further = rw c.in_ok-told_on.was at telling in
    let before = first_answers plan run.told in
    let over = subst (λ (q : Planned). HasTold q lines before run.telling) (sym c.requires.bare) c.requires.so.told in
    let told = subst (λ (q : Planned). HasTold q lines (before ++ given) c.telling-2-1.given.0) c.requires.bare (further before (length-first plan run.told) over) in
    let to = come-to plan from c.min-to.result _ done in
    let many : run.told + length run.replaying.answers.items ≡ from =
    ap (λ n. run.told + n) (sym (ap length c.as_slice-given.ensures.value) ∙ c.as_slice-given.ensures.len ∙ sym c.len.ensures) in
    let answers : before ++ given ≡ first_answers plan from =
    ap (λ (ans : List (Option Answer)). before ++ ans) c.as_slice-given.ensures.value ∙ sym c.requires.so.replayed.answers ∙ ap (first_answers plan) many in
    let count : c.len-count.result ≡ length plan.readings =
    c.len-count.ensures.len ∙ sym (length-map c.readings.result.now reading_at) ∙ ap (λ (rs : List Reading). length rs) c.readings.ensures.readings
    ∙ ap (λ (q : Planned). length q.readings) c.requires.bare in
    record {
      replayed = subst (λ n. HasReplayed plan from n c.replaying-2-1.given.0) to done;
      told = subst (λ (ans : List (Option Answer)). HasTold plan lines ans c.telling-2-1.given.0) answers told;
      within = omega (arith, to, count, c.min-to.ensures);
    }

pub returns-clause-further : goal.returns-clause-further
returns-clause-further g c =
    let plan = g.J.PlanName.plan in
    let from = c.args.self.told + c.len.result in
    let replayed : OnOk c.join_mut-told_on.result.1 (HasReplayed plan from c.min-to.result c.replaying-2-1.given.0) = search rules in
    let done = rw c.in_ok-replayed.was at replayed in
    let to = come-to plan from c.min-to.result _ done in
    let count : c.len-count.result ≡ length plan.readings =
    c.len-count.ensures.len ∙ sym (length-map c.readings.result.now reading_at) ∙ ap (λ (rs : List Reading). length rs) c.readings.ensures.readings
    ∙ ap (λ (q : Planned). length q.readings) c.requires.bare in
    elim (cases_lt (from + 4096) (length plan.readings)) [
      | inl less ↦ inr (omega (arith, to, count, less, c.min-to.ensures, c.saturating_add.ensures, c.len.ensures))
      | inr le ↦ inl (omega (arith, to, count, le, c.min-to.ensures, c.saturating_add.ensures, c.len.ensures))
    ]
