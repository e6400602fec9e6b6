use Rattle.std.proofs.Common.{◌≡◌, ◌∙◌, ap, sym, [], List, ◌⊎◌, ◌+◌, ◌*◌, ◌/◌, inl, inr, length, arith}
use Rattle.std.proofs.lemmas.List.{length-map}
use Rattle.journal_table.specs.Readings.{reading_at}
use Rattle.read_set.specs.Plans.{Planned, plan_over}
use Rattle.sip_reader.specs.declared.request.Reading.{Reading}
use Rattle.replay_run.specs.InOrder.{reached}
use Rattle.replay_run.proofs.in_order.run_in_order.Goals as goal

pub loop-init : goal.loop-init
loop-init g c =
    let plan = g.J.PlanName.plan in
    let bare = c.take_base.ensures.left ∙ ap (λ (q : Planned). plan_over q []) c.requires.named in
    let count : c.len.result ≡ length plan.readings = c.len.ensures.len ∙ sym (length-map c.readings.result.now reading_at) ∙ ap (λ (rs : List Reading). length rs) c.readings.ensures.readings ∙ ap (λ (q : Planned). length q.readings) bare in
    let records = c.of-live.ensures ∙ c.take_base.ensures.records ∙ ap (λ (q : Planned). q.base) c.requires.named in
    (c.in_ok-run.ensures.begun plan c.args.journal.now records, inr (omega (arith, c.in_ok-run.ensures.start)), ap (λ n. n / 4096 + 1) count)

pub go_on-requires-clause-bare : goal.go_on-requires-clause-bare
go_on-requires-clause-bare g c κs within =
    c.take_base.ensures.left ∙ ap (λ (q : Planned). plan_over q []) c.requires.named

pub go_on-requires-clause-so : goal.go_on-requires-clause-so
go_on-requires-clause-so g c κs within = c.loop.invariant.0

pub loop-preserved : goal.loop-preserved
loop-preserved g c =
    let so = c.in_ok-run-2.ensures.so in
    let was = c.loop.invariant.1 in
    let further : (reached c.in_ok-run-2.run' ≡ length g.J.PlanName.plan.readings) ⊎ (reached c.in_ok-run-2.run' ≡ (c.loop.counter + 1) * 4096) = elim c.in_ok-run-2.ensures.further [
      | inl all ↦ inl all
      | inr more ↦ elim was [
        | inl all ↦ absurd (omega (arith, all, more, so.within))
        | inr at ↦ inr (omega (arith, at, more))
      ]
    ] in
    (so, further, c.loop.invariant.2)

pub finish-requires-clause-bare : goal.finish-requires-clause-bare
finish-requires-clause-bare g c κs within =
    c.take_base.ensures.left ∙ ap (λ (q : Planned). plan_over q []) c.requires.named

pub finish-requires-clause-fits : goal.finish-requires-clause-fits
finish-requires-clause-fits g c κs within = ap (λ (q : Planned). q.readings) (sym c.requires.named) ∙ c.requires.fits

pub finish-requires-clause-so : goal.finish-requires-clause-so
finish-requires-clause-so g c κs within = c.loop.invariant.0

pub finish-requires-clause-all : goal.finish-requires-clause-all
finish-requires-clause-all g c κs within =
    let so = c.loop.invariant.0 in
    elim c.loop.invariant.1 [
      | inl all ↦ all
      | inr at ↦ absurd (omega (arith, at, c.loop.invariant.2, c.loop-test.false, so.within))
    ]
