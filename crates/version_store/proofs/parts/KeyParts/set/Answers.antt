use Rattle.std.proofs.Common.{◌≡◌, ◌<◌, ◌∙◌, ap, sym, length, rules, Some, true}
use Rattle.std.proofs.lemmas.Option.{slice_get-get_or}
use Rattle.std.proofs.lemmas.Result.{on_ok_weaker, on_err_weaker}
use Rattle.version_store.specs.Index.{position_in}
use Rattle.version_store.proofs.Hashed.{entered, unentered}
use Rattle.version_store.proofs.parts.KeyParts.set.Goals as goal

pub returns-clause-put : goal.returns-clause-put
returns-clause-put c =
    let parts = c.args.self.now.parts.items in
    let part = c.index_mut-part.result.now in
    let i = c.position_in-position.result in
    let here : i ≡ position_in (length parts) c.args.key.now = search rules in
    let within : i < length parts = search rules in
    let there = slice_get-get_or parts i part within ∙ ap Some (sym c.index_mut-part.ensures.value) in
    on_ok_weaker c.add.result (entered parts i part c.add.new.part c.args.key.now c.args.line true here there) c.add.ensures.put

pub returns-clause-same : goal.returns-clause-same
returns-clause-same c =
    let parts = c.args.self.now.parts.items in
    let part = c.index_mut-part.result.now in
    let i = c.position_in-position.result in
    let within : i < length parts = search rules in
    let there = slice_get-get_or parts i part within ∙ ap Some (sym c.index_mut-part.ensures.value) in
    on_err_weaker c.add.result (unentered parts i part c.add.new.part there) c.add.ensures.same
