use Rattle.speculate.proofs.Drives.{done_appears, drives_none, drives_on, reads_stops}
use Rattle.std.proofs.Common.{[], sym, ◌∙◌}
use Rattle.std.proofs.lemmas.Result.{err_from_is_err_and}
use Rattle.speculate.proofs.driving.read_line.Goals as goal

pub returns-in_err-asked-clause-led : goal.returns-in_err-asked-clause-led
returns-in_err-asked-clause-led g c = drives_none g.J.PlanName.plan c.args.board.now c.args.line

pub returns-in_err-asked-clause-fault : goal.returns-in_err-asked-clause-fault
returns-in_err-asked-clause-fault g c =
    let p = err_from_is_err_and c.from_residual.result c.from_residual.ensures.1 in
    rw (p.1, p.2) (reads_stops g.J.PlanName.plan c.args.board.now c.args.line [] c.requires.reads)

pub keys-preserved : goal.keys-preserved
keys-preserved g c = record {
  reads = c.in_ok-look_at-in-Key.ensures.reads;
  next = c.keys.invariant.next ∙ sym c.in_ok-look_at-in-Key.ensures.next;
  led = drives_on g.J.PlanName.plan c.args.line c.args.board.now c.keys.board c.look_at.new.board c.keys.invariant.led c.look_at.ensures.led;
}

pub returns-in_err-look_at-in-Key-clause-led : goal.returns-in_err-look_at-in-Key-clause-led
returns-in_err-look_at-in-Key-clause-led g c =
    drives_on g.J.PlanName.plan c.args.line c.args.board.now c.keys.board c.look_at.new.board c.keys.invariant.led c.look_at.ensures.led

pub returns-in-Done-clause-ready : goal.returns-in-Done-clause-ready
returns-in-Done-clause-ready g c =
    done_appears g.J.PlanName.plan c.keys.board c.args.line c.args.attempt c.keys.notes c.in_ok-next.next c.in-Done.version
    c.keys.invariant.reads c.keys.invariant.next c.in_ok-next.ensures c.settled_if_done.ensures c.in-Done.is
