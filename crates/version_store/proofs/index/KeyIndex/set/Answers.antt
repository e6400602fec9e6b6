use Rattle.std.proofs.Common.{◌≡◌, ◌<◌, ◌∙◌, ap, length, refl, rules, Some, sym, true}
use Rattle.std.proofs.lemmas.Option.{slice_get-get_or}
use Rattle.std.proofs.lemmas.Result.{on_ok_weaker}
use Rattle.version_store.specs.Index.{in_parts, position_in}
use Rattle.version_store.proofs.Slots.{either, elsewhere, first_in, kept_then, never_some, other_changed, own_changed}
use Rattle.version_store.proofs.index.KeyIndex.set.Goals as goal

pub returns-in-Some-clause-put : goal.returns-in-Some-clause-put
returns-in-Some-clause-put c =
    let slots = c.args.self.now.slots.items in
    let i = c.position_in-position.result in
    let here : i ≡ position_in (length slots) c.args.key.now = search rules in
    let within : i < length slots = search rules in
    let there = slice_get-get_or slots i c.index_mut.result.now within ∙ ap Some (sym c.index_mut.ensures.value ∙ c.in-Some.is) in
    on_ok_weaker c.insert.result (own_changed slots i c.in-Some.own c.args.key.now c.in-Some.column c.insert.new.self (in_parts c.args.self.now.others.parts.items) c.args.line true here there c.if-eq.ensures) c.insert.ensures.put

pub returns-in-Some-2-clause-put : goal.returns-in-Some-2-clause-put
returns-in-Some-2-clause-put c =
    let slots = c.args.self.now.slots.items in
    let i = c.position_in-position.result in
    let here : i ≡ position_in (length slots) c.args.key.now = search rules in
    let within : i < length slots = search rules in
    let there = slice_get-get_or slots i c.index_mut.result.now within ∙ ap Some (sym c.index_mut.ensures.value ∙ c.in-Some.is) in
    on_ok_weaker c.set.result (other_changed slots i c.in-Some.own c.args.key.now c.in-Some.column (in_parts c.args.self.now.others.parts.items) (in_parts c.set.new.self.parts.items) c.args.line true here there c.if-eq.ensures) c.set.ensures.put

pub invariant_of-self-in-Some-2 : goal.invariant_of-self-in-Some-2
invariant_of-self-in-Some-2 c =
    let slots = c.args.self.now.slots.items in
    let i = c.position_in-position.result in
    let here : i ≡ position_in (length slots) c.args.key.now = search rules in
    let within : i < length slots = search rules in
    let there = slice_get-get_or slots i c.index_mut.result.now within ∙ ap Some (sym c.index_mut.ensures.value) in
    let others = in_parts c.args.self.now.others.parts.items in
    record {
      kept = kept_then slots i _ (c.in-Some.own, c.in-Some.column) others (in_parts c.set.new.self.parts.items) there c.args.self.now.kept
          (λ q m away. either c.set.result (λ v. elsewhere slots i c.args.key.now others (in_parts c.set.new.self.parts.items) c.args.line true here v q m away) (λ same. same q m) c.set.ensures.put c.set.ensures.same);
    }

pub invariant_of-self-in_default : goal.invariant_of-self-in_default
invariant_of-self-in_default c =
    let slots = c.args.self.now.slots.items in
    let i = c.position_in-position.result in
    let within : i < length slots = search rules in
    let there = slice_get-get_or slots i c.index_mut.result.now within ∙ ap Some (sym c.index_mut.ensures.value) in
    let others = in_parts c.args.self.now.others.parts.items in
    record { kept = kept_then slots i _ (c.in_ok-clone-in_default.field-0, c.of.result) others others there c.args.self.now.kept (λ q m apart. refl) }

pub returns-in_ok-clone-in_default-clause-put : goal.returns-in_ok-clone-in_default-clause-put
returns-in_ok-clone-in_default-clause-put c =
    let slots = c.args.self.now.slots.items in
    let i = c.position_in-position.result in
    let here : i ≡ position_in (length slots) c.args.key.now = search rules in
    let within : i < length slots = search rules in
    let there = slice_get-get_or slots i c.index_mut.result.now within ∙ ap Some (sym c.index_mut.ensures.value) in
    let others = in_parts c.args.self.now.others.parts.items in
    let own : c.in_ok-clone-in_default.field-0 ≡ c.args.key.now = c.in_ok-clone-in_default.ensures.cases in
    let none = never_some c.index_mut.result.now c.in_default.not-Some in
    rw (own, c.of.ensures) (first_in slots i c.args.key.now others c.args.line here (there ∙ ap Some none) c.args.self.now.kept)
