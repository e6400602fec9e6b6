use Rattle.journal_run.specs.Found.{said_of}
use Rattle.journal_run.proofs.Taking.{stops-at}
use Rattle.journal_run.proofs.batch.take_one.Goals as goal

pub returns-in-Refused-clause-stops : goal.returns-in-Refused-clause-stops
returns-in-Refused-clause-stops c =
    stops-at c.in_ok-take_found.field-0 c.in-Refused.why c.args.place (said_of c.args.one.now) c.args.making.now c.take_found.new.self c.of_line.result c.in-Refused.is
    c.in_ok-take_found.ensures c.of_line.ensures
