use Rattle.std.proofs.Common.{◌∙◌, length, subst}
use Rattle.replay_run.specs.OneThread.{IsOutputBy}
use Rattle.replay_run.proofs.Ended.{all_zero, answers_by_number, collected_alone}
use Rattle.replay_run.proofs.run.output.Goals as goal

pub output_of-requires-clause-answers : goal.output_of-requires-clause-answers
output_of-requires-clause-answers c = c.in_ok-outcome.ensures.answers ∙ answers_by_number c.args.plan.now

pub output_of-requires-clause-records : goal.output_of-requires-clause-records
output_of-requires-clause-records c = collected_alone c.args.plan.now c.in_ok-replayed.replayed.written c.in_ok-replayed.ensures.written _ c.in_ok-outcome.ensures.records

pub returns : goal.returns
returns c =
    subst (λ tried. IsOutputBy c.args.plan.now c.args.journal.now tried c.in_ok-output.output)
    (c.in_ok-outcome.ensures.attempts ∙ all_zero c.args.plan.now.first (length c.args.plan.now.readings)) c.in_ok-output.ensures
