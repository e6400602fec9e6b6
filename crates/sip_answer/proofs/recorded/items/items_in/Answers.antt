use Rattle.std.proofs.Common.{◌≡◌, Some, None, rules, ◌∙◌, eqb, sym, ap, refl, map}
use Rattle.std.proofs.lemmas.List.{map_push}
use Rattle.std.proofs.lemmas.Iterator.Consumers.{YieldsList-end}
use Rattle.std.proofs.lemmas.Iterator.Splits.{YieldsList-from_slice_split}
use Rattle.std.specs.List.{filter_map}
use Rattle.sip_reader.specs.Fields.{text_after}
use Rattle.sip_answer.specs.Recorded.{items_in}
use Rattle.sip_answer.proofs.ItemLists.{filter_map-push, filter_map-skip}
use Rattle.sip_answer.proofs.recorded.items.items_in.Goals as goal

pub loop-piece-preserved-in_ok-push-in-Some-text_of : goal.loop-piece-preserved-in_ok-push-in-Some-text_of
loop-piece-preserved-in_ok-push-in-Some-text_of c =
    let has : text_after c.args.a c.args.b c.in-Some.piece.now ≡ Some c.in-Some-text_of.text.now = sym c.in-Some-text_of.ensures in
    rw (
      c.in_ok-push-in-Some-text_of.ensures.ok,
      c.in_ok-from_slice-in-Some-text_of.ensures.items,
      map_push (λ p. p.now) c.loop-piece.yielded c.in-Some.piece,
      filter_map-push (text_after c.args.a c.args.b) (map (λ p. p.now) c.loop-piece.yielded) c.in-Some.piece.now c.in-Some-text_of.text.now has,
      c.loop-piece.invariant,
    ) refl

pub loop-piece-preserved : goal.loop-piece-preserved
loop-piece-preserved c =
    let lacks : text_after c.args.a c.args.b c.in-Some.piece.now ≡ None = sym c.in-None-text_of.ensures in
    rw (
      map_push (λ p. p.now) c.loop-piece.yielded c.in-Some.piece,
      filter_map-skip (text_after c.args.a c.args.b) (map (λ p. p.now) c.loop-piece.yielded) c.in-Some.piece.now lacks,
    ) c.loop-piece.invariant

pub returns : goal.returns
unfolding items_in
returns c =
    let whole = YieldsList-end (YieldsList-from_slice_split _ (λ b. eqb b 124) c.args.rest.now (search rules) (search rules) refl (λ x b q k. search rules)) c.loop-piece.yielded _ c.loop-piece.yielded_by _ _ c.in-None.is c.next.ensures.steps in
    c.loop-piece.invariant ∙ ap (filter_map (text_after c.args.a c.args.b)) whole.0
