use Rattle.std.proofs.Common.{◌≡◌, sym, true}
use Rattle.std.specs.BTreeMap.{get}
use Rattle.std.proofs.lemmas.Result.{on_ok_weaker, on_err_weaker}
use Rattle.circ_records.specs.Keys.{key_cmp}
use Rattle.version_store.proofs.Columns.{begun, changed, kept, some_is}
use Rattle.version_store.proofs.parts.add.Goals as goal

pub returns-in-Some-clause-put : goal.returns-in-Some-clause-put
returns-in-Some-clause-put c =
    let there = sym c.in-Some.ensures.value in
    let update = (c.get_mut.follows.holds c.insert.new.self).3 (some_is _ _ there) in
    on_ok_weaker c.insert.result (λ put q m. changed (get key_cmp c.args.part.now) _ c.args.key.now q c.args.line m true _ c.insert.new.self there update.0 put) c.insert.ensures.put

pub returns-in-Some-clause-same : goal.returns-in-Some-clause-same
returns-in-Some-clause-same c =
    let there = sym c.in-Some.ensures.value in
    let update = (c.get_mut.follows.holds c.insert.new.self).3 (some_is _ _ there) in
    on_err_weaker c.insert.result (λ same q m. kept (get key_cmp c.args.part.now) _ c.args.key.now q m _ c.insert.new.self there update.0 same) c.insert.ensures.same

pub returns-clause-put : goal.returns-clause-put
returns-clause-put c = λ q m.
    let own : c.in_ok-clone.field-0 ≡ c.args.key.now = c.in_ok-clone.ensures.cases in
    begun (get key_cmp c.args.part.now) (get key_cmp c.insert-2.new.self) c.args.key.now q c.args.line m (sym c.in_default.ensures.value)
    (rw (← own, ← c.of.ensures, ← c.get_mut.follows.holds-at-none) c.in_ok-insert.ensures.updates.0)
