use Rattle.replay_run.proofs.Stepping.{in-order-each-once}
use Rattle.replay_run.proofs.by_workers.run.Goals as goal

pub returns-in_ok-output-clause-output : goal.returns-in_ok-output-clause-output
returns-in_ok-output-clause-output g c = (_, c.in_ok-output.ensures)

pub returns-in_ok-output-clause-attempts : goal.returns-in_ok-output-clause-attempts
returns-in_ok-output-clause-attempts g c =
    in-order-each-once c.args.plan c.args.journal.now c.in_ok-output.output c.requires.fits c.in_ok-output.ensures
