use Rattle.std.proofs.Common.{◌≡◌, ◌++◌, [], ◌∙◌, Ok, Err, None, take, drop, length, ap, arith, sym}
use Rattle.std.specs.Prelude.{is_some}
use Rattle.std.specs.BTreeMap.{BTreeMap, insert_entry}
use Rattle.circ_records.specs.Devices.Positions.{position_from}
use Rattle.circ_records.specs.Keys.{key_cmp}
use Rattle.circ_records.specs.Records.{Entries, record_at}
use Rattle.circ_records.specs.declared.key.Key.{Key}
use Rattle.circ_records.specs.declared.record.Record.{Record}
use Rattle.circ_records.specs.declared.record_list.RecordList.{RecordList}
use Rattle.circ_records.proofs.Positions.{held, missing, in-second, empty-of, none-before, past, put-at, put-between, put-last, rises-first, rises-rest, there-before}
use Rattle.circ_records.proofs.record_map.RecordMap.put.Goals as goal

pub position-requires : goal.position-requires
position-requires c = (rises-first c.self.inside.listed.entries.items c.self.inside.mapped.entries c.self.invariant)

-- ---- the key is listed

pub index_mut-requires : goal.index_mut-requires
index_mut-requires c =
    let at : position_from 0 c.args.key c.self.inside.listed.entries.items ≡ Ok c.in-Ok.position = ap (λ (k : Key). position_from 0 k c.self.inside.listed.entries.items) (sym c.as_ref-2.ensures) ∙ sym c.position.ensures ∙ c.in-Ok.is in
    let within = (held c.self.inside.listed.entries.items c.args.key c.in-Ok.position at).0 in
    omega (arith, within)

pub invariant_of-self-in-Ok : goal.invariant_of-self-in-Ok
invariant_of-self-in-Ok c =
    let es = c.self.inside.listed.entries.items in
    let at : position_from 0 c.args.key es ≡ Ok c.in-Ok.position = ap (λ (k : Key). position_from 0 k es) (sym c.as_ref-2.ensures) ∙ sym c.position.ensures ∙ c.in-Ok.is in
    let same : c.index_mut.result.now.0 ≡ c.args.key = ap (λ (e : Key × Record). e.0) c.index_mut.ensures.value ∙ (held es c.args.key c.in-Ok.position at).1 c.index_mut.result.now in
    (put-at es c.self.inside.mapped.entries c.args.key c.index_mut.result.now.0 c.args.value c.in-Ok.position c.self.invariant at same).rising

pub returns-in-Ok-clause-double : goal.returns-in-Ok-clause-double
returns-in-Ok-clause-double c =
    let es = c.self.inside.listed.entries.items in
    let at : position_from 0 c.args.key es ≡ Ok c.in-Ok.position = ap (λ (k : Key). position_from 0 k es) (sym c.as_ref-2.ensures) ∙ sym c.position.ensures ∙ c.in-Ok.is in
    rw (← c.self.view_is) (sym (ap is_some (there-before es c.self.inside.mapped.entries c.args.key c.in-Ok.position c.index_mut.result.now at)))

pub returns-in-Ok-clause-put : goal.returns-in-Ok-clause-put
returns-in-Ok-clause-put c =
    let es = c.self.inside.listed.entries.items in
    let at : position_from 0 c.args.key es ≡ Ok c.in-Ok.position = ap (λ (k : Key). position_from 0 k es) (sym c.as_ref-2.ensures) ∙ sym c.position.ensures ∙ c.in-Ok.is in
    let same : c.index_mut.result.now.0 ≡ c.args.key = ap (λ (e : Key × Record). e.0) c.index_mut.ensures.value ∙ (held es c.args.key c.in-Ok.position at).1 c.index_mut.result.now in
    rw (← c.self.view_is) (put-at es c.self.inside.mapped.entries c.args.key c.index_mut.result.now.0 c.args.value c.in-Ok.position c.self.invariant at same).put

-- ---- it goes after all

pub invariant_of-self-then-goes_last : goal.invariant_of-self-then-goes_last
invariant_of-self-then-goes_last c =
    let es = c.self.inside.listed.entries.items in
    let fs = c.self.inside.mapped.entries in
    let at : position_from 0 c.args.key es ≡ Err (length es) =
    ap (λ (k : Key). position_from 0 k es) (sym c.as_ref.ensures) ∙ c.goes_last.ensures c.if-goes_last.true in
    let none : fs ≡ [] = empty-of fs (c.is_empty.ensures.0 c.if-is_empty.true) in
    (put-last es fs c.push.new.self.entries.items c.args.key c.args.value c.self.invariant at none c.in_ok-push.ensures.ok).rising

pub returns-then-goes_last-clause-put : goal.returns-then-goes_last-clause-put
returns-then-goes_last-clause-put c =
    let es = c.self.inside.listed.entries.items in
    let fs = c.self.inside.mapped.entries in
    let at : position_from 0 c.args.key es ≡ Err (length es) =
    ap (λ (k : Key). position_from 0 k es) (sym c.as_ref.ensures) ∙ c.goes_last.ensures c.if-goes_last.true in
    let none : fs ≡ [] = empty-of fs (c.is_empty.ensures.0 c.if-is_empty.true) in
    rw (← c.self.view_is) (put-last es fs c.push.new.self.entries.items c.args.key c.args.value c.self.invariant at none c.in_ok-push.ensures.ok).put

pub returns-then-goes_last-clause-double : goal.returns-then-goes_last-clause-double
returns-then-goes_last-clause-double c =
    let es = c.self.inside.listed.entries.items in
    let fs = c.self.inside.mapped.entries in
    let at : position_from 0 c.args.key es ≡ Err (length es) =
    ap (λ (k : Key). position_from 0 k es) (sym c.as_ref.ensures) ∙ c.goes_last.ensures c.if-goes_last.true in
    let none : fs ≡ [] = empty-of fs (c.is_empty.ensures.0 c.if-is_empty.true) in
    let lacks : record_at es c.args.key ≡ None = missing 0 es c.args.key (length es) (rises-first es fs c.self.invariant) at in
    rw (← c.self.view_is) (sym (ap is_some (in-second es fs c.args.key lacks ∙ ap (λ (l : Entries). record_at l c.args.key) none)))

-- ---- it goes into the map

pub split_off-requires : goal.split_off-requires
split_off-requires c =
    let es = c.self.inside.listed.entries.items in
    let fs = c.self.inside.mapped.entries in
    let at : position_from 0 c.args.key es ≡ Err c.in-Err.position = ap (λ (k : Key). position_from 0 k es) (sym c.as_ref-2.ensures) ∙ sym c.position.ensures ∙ c.in-Err.is in
    let within = (past es fs c.args.key c.args.value c.in-Err.position at).0 in
    rw c.replace-listed.ensures.value (omega (arith, within))

pub put_before-requires : goal.put_before-requires
put_before-requires c =
    rw (c.in_ok-split_off.ensures.tail, c.replace-listed.ensures.value, c.replace-mapped.ensures.value)
    (rises-rest c.in-Err.position c.self.inside.listed.entries.items c.self.inside.mapped.entries c.self.invariant)

pub invariant_of-self-2 : goal.invariant_of-self-2
invariant_of-self-2 c =
    let es = c.self.inside.listed.entries.items in
    let fs = c.self.inside.mapped.entries in
    let at : position_from 0 c.args.key es ≡ Err c.in-Err.position = ap (λ (k : Key). position_from 0 k es) (sym c.as_ref-2.ensures) ∙ sym c.position.ensures ∙ c.in-Err.is in
    let front : c.split_off.new.self.items ≡ take c.in-Err.position es = c.in_ok-split_off.ensures.items ∙ ap (λ (l : RecordList). take c.in-Err.position l.entries.items) c.replace-listed.ensures.value in
    let tail : c.in_ok-split_off.field-0.items ≡ drop c.in-Err.position es = c.in_ok-split_off.ensures.tail ∙ ap (λ (l : RecordList). drop c.in-Err.position l.entries.items) c.replace-listed.ensures.value in
    let back : c.in_ok-mapped.mapped.entries ≡ drop c.in-Err.position es ++ fs =
    c.in_ok-mapped.ensures ∙ ap (λ (l : Entries). l ++ c.replace-mapped.result.entries) tail ∙ ap (λ (m : BTreeMap Key Record). drop c.in-Err.position es ++ m.entries) c.replace-mapped.ensures.value in
    let all : c.put_after_list.new.listed.entries.items ++ c.put_after_list.new.mapped.entries ≡ take c.in-Err.position es ++ insert_entry key_cmp (drop c.in-Err.position es ++ fs) c.args.key c.args.value =
    c.in_ok-double.ensures.put ∙ ap (λ (l : Entries). l ++ insert_entry key_cmp c.in_ok-mapped.mapped.entries c.args.key c.args.value) front ∙ ap (λ (l : Entries). take c.in-Err.position es ++ insert_entry key_cmp l c.args.key c.args.value) back in
    (put-between es fs (c.put_after_list.new.listed.entries.items ++ c.put_after_list.new.mapped.entries) c.args.key c.args.value c.in-Err.position c.self.invariant at all).rising

pub returns-clause-double : goal.returns-clause-double
returns-clause-double c =
    let es = c.self.inside.listed.entries.items in
    let fs = c.self.inside.mapped.entries in
    let at : position_from 0 c.args.key es ≡ Err c.in-Err.position = ap (λ (k : Key). position_from 0 k es) (sym c.as_ref-2.ensures) ∙ sym c.position.ensures ∙ c.in-Err.is in
    let tail : c.in_ok-split_off.field-0.items ≡ drop c.in-Err.position es = c.in_ok-split_off.ensures.tail ∙ ap (λ (l : RecordList). drop c.in-Err.position l.entries.items) c.replace-listed.ensures.value in
    let back : c.in_ok-mapped.mapped.entries ≡ drop c.in-Err.position es ++ fs =
    c.in_ok-mapped.ensures ∙ ap (λ (l : Entries). l ++ c.replace-mapped.result.entries) tail ∙ ap (λ (m : BTreeMap Key Record). drop c.in-Err.position es ++ m.entries) c.replace-mapped.ensures.value in
    rw (← c.self.view_is)
    (c.in_ok-double.ensures.double ∙ ap is_some (ap (λ (l : Entries). record_at l c.args.key) back ∙ none-before es fs c.args.key c.in-Err.position c.self.invariant at))

pub returns-clause-put : goal.returns-clause-put
returns-clause-put c =
    let es = c.self.inside.listed.entries.items in
    let fs = c.self.inside.mapped.entries in
    let at : position_from 0 c.args.key es ≡ Err c.in-Err.position = ap (λ (k : Key). position_from 0 k es) (sym c.as_ref-2.ensures) ∙ sym c.position.ensures ∙ c.in-Err.is in
    let front : c.split_off.new.self.items ≡ take c.in-Err.position es = c.in_ok-split_off.ensures.items ∙ ap (λ (l : RecordList). take c.in-Err.position l.entries.items) c.replace-listed.ensures.value in
    let tail : c.in_ok-split_off.field-0.items ≡ drop c.in-Err.position es = c.in_ok-split_off.ensures.tail ∙ ap (λ (l : RecordList). drop c.in-Err.position l.entries.items) c.replace-listed.ensures.value in
    let back : c.in_ok-mapped.mapped.entries ≡ drop c.in-Err.position es ++ fs =
    c.in_ok-mapped.ensures ∙ ap (λ (l : Entries). l ++ c.replace-mapped.result.entries) tail ∙ ap (λ (m : BTreeMap Key Record). drop c.in-Err.position es ++ m.entries) c.replace-mapped.ensures.value in
    let all : c.put_after_list.new.listed.entries.items ++ c.put_after_list.new.mapped.entries ≡ take c.in-Err.position es ++ insert_entry key_cmp (drop c.in-Err.position es ++ fs) c.args.key c.args.value =
    c.in_ok-double.ensures.put ∙ ap (λ (l : Entries). l ++ insert_entry key_cmp c.in_ok-mapped.mapped.entries c.args.key c.args.value) front ∙ ap (λ (l : Entries). take c.in-Err.position es ++ insert_entry key_cmp l c.args.key c.args.value) back in
    rw (← c.self.view_is) (put-between es fs (c.put_after_list.new.listed.entries.items ++ c.put_after_list.new.mapped.entries) c.args.key c.args.value c.in-Err.position c.self.invariant at all).put
