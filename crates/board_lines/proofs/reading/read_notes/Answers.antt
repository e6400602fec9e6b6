use Rattle.std.proofs.Common.{◌≡◌, ◌++◌, ◌∷◌, ◌<◌, [], None, length, sym, subst, ap, ◌∙◌, arith}
use Rattle.read_set.specs.Notes.{note_of}
use Rattle.board_lines.specs.Notes.{notes_by}
use Rattle.board_lines.proofs.Searches.{next_fresh, take_next}
use Rattle.board_lines.proofs.reading.read_notes.Goals as goal

pub add-requires : goal.add-requires
add-requires g c =
    let lt : c.loop-i.i < length c.args.noted.now = omega (arith, c.len-i-end.ensures.count) in
    subst (λ n. note_of n c.in_ok-read_note.field-0.key ≡ None) (sym c.loop-i.invariant.so_far)
    (next_fresh c.args.plan.now.base c.args.noted.now c.loop-i.i c.in_ok-read_note.field-0 c.loop-i.invariant.once lt c.in_ok-read_note.ensures)

pub loop-i-preserved : goal.loop-i-preserved
loop-i-preserved g c = record {
  so_far =
      c.in_ok-add.ensures.ok
      ∙ ap (λ n. n ++ c.in_ok-read_note.field-0 ∷ []) c.loop-i.invariant.so_far
      ∙ sym (take_next (notes_by c.args.plan.now.base c.args.noted.now) c.loop-i.i c.in_ok-read_note.field-0 c.in_ok-read_note.ensures);
  once = c.loop-i.invariant.once;
}
