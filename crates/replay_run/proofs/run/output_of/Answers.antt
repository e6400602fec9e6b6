use Rattle.replay_run.proofs.Outputs.{answered_lines}
use Rattle.replay_run.proofs.run.output_of.Goals as goal

pub report-requires-clause-answered : goal.report-requires-clause-answered
report-requires-clause-answered c =
    answered_lines c.args.plan.now c.args.journal.now _ c.requires.fits c.requires.answers
