use Rattle.log_pairs.specs.Pairs.{Over}
use Rattle.journal_run.proofs.Taking.{takes-message, takes-one}
use Rattle.journal_run.proofs.making.Making.take_found.Goals as goal

pub returns-in_ok-over-in-Over : goal.returns-in_ok-over-in-Over
returns-in_ok-over-in-Over c =
    rw (c.in-Over.is, ← c.as_slice-in-Over.ensures.value) (takes-one (Over c.as_slice-in-Over.result.now) c.args.self.now c.over.new.self tt c.in_ok-over-in-Over.ensures)

pub returns-in_ok-taken-in-Message : goal.returns-in_ok-taken-in-Message
returns-in_ok-taken-in-Message c =
    rw (c.in-Message.is, ← c.as_slice.ensures.value, ← c.as_slice-in-Message.ensures.value)
    (takes-message c.in_ok-taken-in-Message.taken c.in-Message.side c.as_slice.result.now c.as_slice-in-Message.result.now c.args.self.now c.take.new.self
    c.in_ok-taken-in-Message.ensures.long c.in_ok-taken-in-Message.ensures.takes)
