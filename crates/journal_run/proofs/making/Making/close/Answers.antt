use Rattle.journal_run.proofs.Steps.{closed-now}
use Rattle.journal_run.proofs.making.Making.close.Goals as goal

pub returns-clause-closes : goal.returns-clause-closes
returns-clause-closes c first said taken s =
    closed-now first said taken c.args.self.now c.close.new.self c.collect.new.self s c.close.ensures c.in_ok-collect.ensures.keeps c.in_ok-collect.ensures.begins c.in_ok-collect.ensures.closed
