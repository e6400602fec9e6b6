use Rattle.std.proofs.Common.{rules, ◌∙◌, eqb, ap, refl}
use Rattle.std.specs.Option.{option_copied}
use Rattle.std.proofs.lemmas.Iterator.Consumers.{YieldsList-end}
use Rattle.std.proofs.lemmas.Iterator.Splits.{YieldsList-from_slice_split}
use Rattle.sip_reader.specs.Fields.{field}
use Rattle.sip_answer.proofs.FirstFields.{next_piece}
use Rattle.sip_answer.proofs.recorded.fields.first_of.Goals as goal

pub loop-piece-preserved : goal.loop-piece-preserved
loop-piece-preserved c =
    ap option_copied c.or-found.ensures ∙ next_piece c.args.a c.args.b c.loop-piece.found c.text_of.result c.loop-piece.yielded c.in-Some.piece c.loop-piece.invariant c.text_of.ensures

pub returns : goal.returns
returns c =
    let whole = YieldsList-end (YieldsList-from_slice_split _ (λ b. eqb b 124) c.args.rest.now (search rules) (search rules) refl (λ x b q k. search rules)) c.loop-piece.yielded _ c.loop-piece.yielded_by _ _ c.in-None.is c.next.ensures.steps in
    c.loop-piece.invariant ∙ ap (field c.args.a c.args.b) whole.0
