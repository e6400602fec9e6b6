use Rattle.std.proofs.Common.{◌∙◌}
use Rattle.board_lines.proofs.Noting.{held_key, none_held}
use Rattle.board_lines.proofs.notes.PlaceNotes.take_key.Goals as goal

pub invariant_of-self-2 : goal.invariant_of-self-2
invariant_of-self-2 g c = none_held c.take.new.self c.take.ensures.after

pub returns-clause-key : goal.returns-clause-key
returns-clause-key g c =
    c.take_key-key.ensures
    ∙ rw (← c.self.view_is) (held_key c.self.inside.held c.in-Some.held c.deref_mut.result.now c.args.i c.in-Some.ensures.value c.deref_mut.ensures.value)
