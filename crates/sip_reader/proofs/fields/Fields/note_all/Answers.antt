use Rattle.std.proofs.Common.{◌∙◌, ◌+◌, ap, arith, drop, length-drop, sym}
use Rattle.std.proofs.lemmas.List.{take_rest}
use Rattle.sip_reader.specs.Fields.{pieces}
use Rattle.sip_reader.specs.Views.{texts_behind, with_pieces}
use Rattle.sip_reader.proofs.Pieces.{found_bar, last_piece, next_piece, no_bar, none_before}
use Rattle.sip_reader.proofs.fields.Fields.note_all.Goals as goal

pub loop-bar-init : goal.loop-bar-init
loop-bar-init c = record { within = omega arith; more = none_before _ (pieces c.args.part.now) c.requires }

pub overflow_add-rest : goal.overflow_add-rest
overflow_add-rest c =
    omega (arith, (found_bar c.loop-bar.rest.now _ _ c.in-Some.is c.memchr.ensures).0.high, c.loop-bar.invariant.within)

pub loop-bar-preserved : goal.loop-bar-preserved
loop-bar-preserved c =
    let s = c.loop-bar.rest.now in
    let bar = c.in-Some.bar in
    let rest = take_rest s (bar + 1) in
    record {
      within = rw rest (omega (arith, length-drop (bar + 1) s, c.loop-bar.invariant.within));
      more = rw rest
          (ap (λ t. with_pieces t (pieces (drop (bar + 1) s))) c.note.ensures
          ∙ sym (ap (with_pieces (texts_behind c.loop-bar.self))
          (next_piece s bar (found_bar s _ bar c.in-Some.is c.memchr.ensures)))
          ∙ c.loop-bar.invariant.more);
    }

pub returns : goal.returns
returns c =
    let s = c.loop-bar.rest.now in
    c.note-2.ensures ∙ sym (ap (with_pieces (texts_behind c.loop-bar.self)) (last_piece s (no_bar s _ c.in_default.is c.memchr.ensures))) ∙ c.loop-bar.invariant.more
