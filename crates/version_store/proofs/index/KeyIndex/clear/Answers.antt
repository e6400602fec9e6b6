use Rattle.std.proofs.Common.{◌≡◌, ◌<◌, ◌∙◌, ap, arith, length, refl, rules, Some, false, sym}
use Rattle.std.proofs.lemmas.Option.{slice_get-get_or}
use Rattle.version_store.specs.Index.{in_parts, position_in}
use Rattle.version_store.proofs.Slots.{kept_then, none_in, none_past, other_changed, own_changed}
use Rattle.version_store.proofs.index.KeyIndex.clear.Goals as goal

pub returns-then-position-len : goal.returns-then-position-len
returns-then-position-len c =
    let slots = c.args.self.now.slots.items in
    let here : c.position_in-position.result ≡ position_in (length slots) c.args.key.now = search rules in
    let end : c.len-2.result ≡ length slots = search rules in
    none_past slots c.args.key.now (in_parts c.args.self.now.others.parts.items) c.args.line (omega (arith, here, end, c.if-position-len.true))

pub invariant_of-self : goal.invariant_of-self
invariant_of-self c =
    let slots = c.args.self.now.slots.items in
    let i = c.position_in-position.result in
    let within : i < length slots = search rules in
    let there = slice_get-get_or slots i c.index_mut.result.now within ∙ ap Some (sym c.index_mut.ensures.value) in
    let others = in_parts c.args.self.now.others.parts.items in
    record { kept = kept_then slots i _ (c.in-Some.own, c.remove.new.self) others others there c.args.self.now.kept (λ q m apart. refl) }

pub returns-in-Some : goal.returns-in-Some
returns-in-Some c =
    let slots = c.args.self.now.slots.items in
    let i = c.position_in-position.result in
    let here : i ≡ position_in (length slots) c.args.key.now = search rules in
    let within : i < length slots = search rules in
    let there = slice_get-get_or slots i c.index_mut.result.now within ∙ ap Some (sym c.index_mut.ensures.value ∙ c.in-Some.is) in
    own_changed slots i c.in-Some.own c.args.key.now c.in-Some.column c.remove.new.self (in_parts c.args.self.now.others.parts.items) c.args.line false here there c.if-eq.ensures c.remove.ensures

pub returns-in-Some-2 : goal.returns-in-Some-2
returns-in-Some-2 c =
    let slots = c.args.self.now.slots.items in
    let i = c.position_in-position.result in
    let here : i ≡ position_in (length slots) c.args.key.now = search rules in
    let within : i < length slots = search rules in
    let there = slice_get-get_or slots i c.index_mut.result.now within ∙ ap Some (sym c.index_mut.ensures.value ∙ c.in-Some.is) in
    other_changed slots i c.in-Some.own c.args.key.now c.in-Some.column (in_parts c.args.self.now.others.parts.items) (in_parts c.clear.new.self.parts.items) c.args.line false here there c.if-eq.ensures c.clear.ensures

pub returns-in-None : goal.returns-in-None
returns-in-None c =
    let slots = c.args.self.now.slots.items in
    let i = c.position_in-position.result in
    let here : i ≡ position_in (length slots) c.args.key.now = search rules in
    let within : i < length slots = search rules in
    let there = slice_get-get_or slots i c.index_mut.result.now within ∙ ap Some (sym c.index_mut.ensures.value) in
    none_in slots i c.index_mut.result.now c.args.key.now (in_parts c.args.self.now.others.parts.items) c.args.line here there c.in-None.is
