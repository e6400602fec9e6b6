use Rattle.std.proofs.Common.{rules, ◌∙◌, eqb, ap, refl}
use Rattle.std.specs.Option.{option_copied}
use Rattle.std.proofs.lemmas.Iterator.Consumers.{YieldsList-end}
use Rattle.std.proofs.lemmas.Iterator.Splits.{YieldsList-from_slice_split}
use Rattle.sip_reader.specs.Fields.{field}
use Rattle.sip_answer.proofs.FirstFields.{next_piece}
use Rattle.sip_answer.proofs.recorded.fields.due_and_fee.Goals as goal

pub loop-piece-preserved : goal.loop-piece-preserved
loop-piece-preserved c =
    let l = c.loop-piece in (
      ap option_copied c.or-due.ensures ∙ next_piece 65 72 l.due c.text_of.result l.yielded c.in-Some.piece l.invariant.0 c.text_of.ensures,
      ap option_copied c.or-fee.ensures ∙ next_piece 66 86 l.fee c.text_of-in-loop-piece.result l.yielded c.in-Some.piece l.invariant.1 c.text_of-in-loop-piece.ensures,
    )

pub returns : goal.returns
returns c =
    let whole = YieldsList-end (YieldsList-from_slice_split _ (λ b. eqb b 124) c.args.rest.now (search rules) (search rules) refl (λ x b q k. search rules)) c.loop-piece.yielded _ c.loop-piece.yielded_by _ _ c.in-None.is c.next.ensures.steps in
    record {
      due = c.loop-piece.invariant.0 ∙ ap (field 65 72) whole.0;
      fee = c.loop-piece.invariant.1 ∙ ap (field 66 86) whole.0;
    }
