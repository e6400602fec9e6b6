use Rattle.std.proofs.Common.{refl, arith}
use Rattle.std.proofs.lemmas.List.{length-map}
use Rattle.board_lines.specs.Notes.{note_by, notes_by}
use Rattle.circ_records.proofs.Alike.{same_lists}
use Rattle.board_lines.proofs.same.same_notes.Goals as goal

pub returns : goal.returns
returns g c =
    let base = c.args.plan.now.base in
    let m = length-map c.args.ours.now (note_by base) in
    (λ _. same_lists c.args.theirs.now (notes_by base c.args.ours.now) (omega (arith, c.if-theirs-len.false, c.len.ensures, m)) (λ j lt. c.loop-i.invariant j (omega (arith, lt, c.loop-i-test.false))), λ _. refl)
