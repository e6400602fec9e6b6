use Rattle.std.proofs.Common.{◌++◌, ◌∷◌, ◌∙◌, [], ap, sym}
use Rattle.speculate.proofs.Drives.{drives_on, next_keys, next_unnoted}
use Rattle.speculate.proofs.driving.look_at_each.Goals as goal

pub look_at-requires-clause-fresh : goal.look_at-requires-clause-fresh
look_at-requires-clause-fresh g c =
    next_unnoted c.loop-note.notes c.args.asked.now c.loop-note.note-index c.note-item.result c.loop-note.invariant.keys c.requires.once c.loop-note-test.true c.note-item.is

pub loop-note-preserved : goal.loop-note-preserved
loop-note-preserved g c = record {
  reads = c.in_ok-look_at.ensures.reads;
  next = c.in_ok-look_at.ensures.next ∙ c.loop-note.invariant.next;
  led = drives_on g.J.PlanName.plan c.args.line c.args.board.now c.loop-note.board c.look_at.new.board c.loop-note.invariant.led c.look_at.ensures.led;
  keys =
      c.in_ok-look_at.ensures.keys
      ∙ ap (λ ks. ks ++ c.note-item.result.key ∷ []) c.loop-note.invariant.keys
      ∙ sym (next_keys c.args.asked.now c.loop-note.note-index c.note-item.result c.loop-note-test.true c.note-item.is);
}

pub returns-in_err-look_at-clause-led : goal.returns-in_err-look_at-clause-led
returns-in_err-look_at-clause-led g c =
    drives_on g.J.PlanName.plan c.args.line c.args.board.now c.loop-note.board c.look_at.new.board c.loop-note.invariant.led c.look_at.ensures.led
