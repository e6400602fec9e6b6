use Rattle.std.proofs.Common.{◌≡◌, ◌<◌, ◌∙◌, ap, sym, arith, length, rules, Some, false}
use Rattle.std.specs.BTreeMap.{get}
use Rattle.std.proofs.lemmas.Option.{slice_get-get_or}
use Rattle.circ_records.specs.Keys.{key_cmp}
use Rattle.version_store.specs.Index.{position_in}
use Rattle.version_store.proofs.Columns.{changed, untouched, some_is}
use Rattle.version_store.proofs.Hashed.{cleared_past, entered}
use Rattle.version_store.proofs.parts.KeyParts.clear.Goals as goal

pub returns-in-Some : goal.returns-in-Some
returns-in-Some c =
    let parts = c.args.self.now.parts.items in
    let part = c.index_mut-part.result.now in
    let i = c.position_in-position.result in
    let here : i ≡ position_in (length parts) c.args.key.now = search rules in
    let within : i < length parts = search rules in
    let there = slice_get-get_or parts i part within ∙ ap Some (sym c.index_mut-part.ensures.value) in
    let column = sym c.in-Some.ensures.value in
    let update = (c.get_mut.follows.holds c.remove.new.self).3 (some_is _ _ column) in
    entered parts i part _ c.args.key.now c.args.line false here there
    (λ q m. changed (get key_cmp part) _ c.args.key.now q c.args.line m false _ c.remove.new.self column update.0 c.remove.ensures)

pub returns-in_default : goal.returns-in_default
returns-in_default c =
    let parts = c.args.self.now.parts.items in
    let part = c.index_mut-part.result.now in
    let i = c.position_in-position.result in
    let here : i ≡ position_in (length parts) c.args.key.now = search rules in
    let within : i < length parts = search rules in
    let there = slice_get-get_or parts i part within ∙ ap Some (sym c.index_mut-part.ensures.value) in
    entered parts i part _ c.args.key.now c.args.line false here there
    (λ q m. rw c.get_mut.follows.holds-at-none (untouched (get key_cmp part) c.args.key.now q c.args.line m (sym c.in_default.ensures.value)))

pub returns-then-position-len : goal.returns-then-position-len
returns-then-position-len c =
    let parts = c.args.self.now.parts.items in
    let here : c.position_in-position.result ≡ position_in (length parts) c.args.key.now = search rules in
    let end : c.len-2.result ≡ length parts = search rules in
    cleared_past parts c.args.key.now c.args.line (omega (arith, here, end, c.if-position-len.true))
