use Rattle.std.proofs.Common.{IfOk, inl, inr, arith, refl, subst, sym}
use Rattle.replay_run.specs.Attempts.{AreOnePerLine, IfOutput}
use Rattle.replay_run.specs.BySteps.{IsRunOf}
use Rattle.replay_run.specs.OneThread.{judgement}
use Rattle.replay_run.proofs.Stepping.{crew, one-each, refused}
use Rattle.replay_run.proofs.by_steps.rebuild_by_steps.Goals as goal

pub returns-then-workers-eq0-clause-run : goal.returns-then-workers-eq0-clause-run
returns-then-workers-eq0-clause-run g c = inr ((λ are. omega (arith, c.if-workers-eq0.true, are.0)), refl)

pub returns-then-workers-gt-WORKERS_MAX-clause-run : goal.returns-then-workers-gt-WORKERS_MAX-clause-run
returns-then-workers-gt-WORKERS_MAX-clause-run g c =
    inr ((λ are. omega (arith, c.if-workers-gt-WORKERS_MAX.true, are.1)), refl)

pub run_steps-requires : goal.run_steps-requires
run_steps-requires g c = ((λ a m. m), (refl, (c.in-Ok.ensures.fits, crew c.args.workers c.if-workers-eq0.false c.if-workers-gt-WORKERS_MAX.false)))

pub returns-in-Ok-clause-run : goal.returns-in-Ok-clause-run
returns-in-Ok-clause-run g c =
    inl (
      crew c.args.workers c.if-workers-eq0.false c.if-workers-gt-WORKERS_MAX.false,
      subst (λ due. IsRunOf due c.args.workers c.args.steps.now c.run_steps.result) (sym c.in-Ok.ensures.due) c.run_steps.ensures,
    )

pub returns-in-Err-clause-run : goal.returns-in-Err-clause-run
returns-in-Err-clause-run g c =
    inl (
      crew c.args.workers c.if-workers-eq0.false c.if-workers-gt-WORKERS_MAX.false,
      refused (judgement c.args.inputs.now) c.args.workers c.args.steps.now c.in-Err.fault c.in-Err.ensures.due,
    )

pub returns-in-Ok-clause-attempts : goal.returns-in-Ok-clause-attempts
returns-in-Ok-clause-attempts g c =
    subst (λ due. IfOk c.run_steps.result (λ run. IfOutput run (λ o. AreOnePerLine due o.attempts.items))) (sym c.in-Ok.ensures.due)
    (one-each (record { plan = c.in-Ok.field-0.plan; lines = c.in-Ok.field-0.journal }) c.args.workers c.args.steps.now c.run_steps.result c.in-Ok.ensures.fits c.run_steps.ensures)
