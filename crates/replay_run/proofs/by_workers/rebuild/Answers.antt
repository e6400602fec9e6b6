use Rattle.std.proofs.Common.{IfOk, inl, inr, arith, refl, subst, sym}
use Rattle.replay_run.specs.Attempts.{AreOnePerLine}
use Rattle.replay_run.specs.ByWorkers.{IsMadeOf}
use Rattle.replay_run.specs.OneThread.{judgement}
use Rattle.replay_run.proofs.Stepping.{crew, unmade}
use Rattle.replay_run.proofs.by_workers.rebuild.Goals as goal

pub returns-then-workers-eq0-clause-output : goal.returns-then-workers-eq0-clause-output
returns-then-workers-eq0-clause-output g c = inr ((λ are. omega (arith, c.if-workers-eq0.true, are.0)), refl)

pub returns-then-workers-gt-WORKERS_MAX-clause-output : goal.returns-then-workers-gt-WORKERS_MAX-clause-output
returns-then-workers-gt-WORKERS_MAX-clause-output g c =
    inr ((λ are. omega (arith, c.if-workers-gt-WORKERS_MAX.true, are.1)), refl)

pub run-output-requires-clause-workers : goal.run-output-requires-clause-workers
run-output-requires-clause-workers g c κs within =
    crew c.args.workers c.if-workers-eq0.false c.if-workers-gt-WORKERS_MAX.false

pub returns-in-Ok-clause-output : goal.returns-in-Ok-clause-output
returns-in-Ok-clause-output g c =
    inl (
      crew c.args.workers c.if-workers-eq0.false c.if-workers-gt-WORKERS_MAX.false,
      subst (λ due. IsMadeOf due c.run-output.result) (sym c.in-Ok.ensures.due) c.run-output.ensures.output,
    )

pub returns-in-Err-clause-output : goal.returns-in-Err-clause-output
returns-in-Err-clause-output g c =
    inl (
      crew c.args.workers c.if-workers-eq0.false c.if-workers-gt-WORKERS_MAX.false,
      unmade (judgement c.args.inputs.now) c.in-Err.fault c.in-Err.ensures.due,
    )

pub returns-in-Ok-clause-attempts : goal.returns-in-Ok-clause-attempts
returns-in-Ok-clause-attempts g c = subst (λ due. IfOk c.run-output.result (λ o. AreOnePerLine due o.attempts.items)) (sym c.in-Ok.ensures.due) c.run-output.ensures.attempts
