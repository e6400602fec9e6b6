use Rattle.std.proofs.Common.{◌≡◌, ◌++◌, ◌∙◌, Ok, Err, Some, None, slice_set, ap, arith, sym}
use Rattle.circ_records.specs.Changes.{broken_by}
use Rattle.circ_records.specs.Devices.Positions.{position_from}
use Rattle.circ_records.specs.Records.{record_at}
use Rattle.circ_records.specs.declared.key.Key.{Key}
use Rattle.circ_records.specs.declared.record.Record.{Record}
use Rattle.circ_records.proofs.Changing.{changed-there, on-err, same-there, some-is}
use Rattle.circ_records.proofs.Positions.{changed-second, held, in-second, missing, put-at, rises-first, there-before}
use Rattle.circ_records.proofs.record_map.RecordMap.change.Goals as goal

pub position-requires : goal.position-requires
position-requires c = (rises-first c.self.inside.listed.entries.items c.self.inside.mapped.entries c.self.invariant)

-- ---- the key is listed

pub index_mut-requires : goal.index_mut-requires
index_mut-requires c =
    let at : position_from 0 c.args.key c.self.inside.listed.entries.items ≡ Ok c.in-Ok.position = ap (λ (k : Key). position_from 0 k c.self.inside.listed.entries.items) (sym c.as_ref.ensures) ∙ sym c.position.ensures ∙ c.in-Ok.is in
    let within = (held c.self.inside.listed.entries.items c.args.key c.in-Ok.position at).0 in
    omega (arith, within)

pub invariant_of-self-in-Ok : goal.invariant_of-self-in-Ok
invariant_of-self-in-Ok c =
    let es = c.self.inside.listed.entries.items in
    let at : position_from 0 c.args.key es ≡ Ok c.in-Ok.position = ap (λ (k : Key). position_from 0 k es) (sym c.as_ref.ensures) ∙ sym c.position.ensures ∙ c.in-Ok.is in
    let same : c.index_mut.result.now.0 ≡ c.args.key = ap (λ (e : Key × Record). e.0) c.index_mut.ensures.value ∙ (held es c.args.key c.in-Ok.position at).1 c.index_mut.result.now in
    (put-at es c.self.inside.mapped.entries c.args.key c.index_mut.result.now.0 c.apply.new.target c.in-Ok.position c.self.invariant at same).rising

pub returns-in-Ok-clause-rule : goal.returns-in-Ok-clause-rule
returns-in-Ok-clause-rule c =
    let es = c.self.inside.listed.entries.items in
    let at : position_from 0 c.args.key es ≡ Ok c.in-Ok.position = ap (λ (k : Key). position_from 0 k es) (sym c.as_ref.ensures) ∙ sym c.position.ensures ∙ c.in-Ok.is in
    let there : record_at (es ++ c.self.inside.mapped.entries) c.args.key ≡ Some c.index_mut.result.now.1 =
    there-before es c.self.inside.mapped.entries c.args.key c.in-Ok.position c.index_mut.result.now at ∙ ap (λ (e : Key × Record). Some e.1) (sym c.index_mut.ensures.value) in
    rw (← c.self.view_is) (c.in_ok-broken.ensures.rule ∙ ap (broken_by c.args.what) (sym there))

pub returns-in-Ok-clause-ok : goal.returns-in-Ok-clause-ok
returns-in-Ok-clause-ok c = λ none.
    let es = c.self.inside.listed.entries.items in
    let fs = c.self.inside.mapped.entries in
    let at : position_from 0 c.args.key es ≡ Ok c.in-Ok.position = ap (λ (k : Key). position_from 0 k es) (sym c.as_ref.ensures) ∙ sym c.position.ensures ∙ c.in-Ok.is in
    let same : c.index_mut.result.now.0 ≡ c.args.key = ap (λ (e : Key × Record). e.0) c.index_mut.ensures.value ∙ (held es c.args.key c.in-Ok.position at).1 c.index_mut.result.now in
    let there : record_at (es ++ fs) c.args.key ≡ Some c.index_mut.result.now.1 =
    there-before es fs c.args.key c.in-Ok.position c.index_mut.result.now at ∙ ap (λ (e : Key × Record). Some e.1) (sym c.index_mut.ensures.value) in
    let put = (put-at es fs c.args.key c.index_mut.result.now.0 c.apply.new.target c.in-Ok.position c.self.invariant at same).put in
    rw (← c.self.view_is) (changed-there (es ++ fs) (slice_set es c.in-Ok.position (c.index_mut.result.now.0, c.apply.new.target) ++ fs) c.args.key c.args.what c.index_mut.result.now.1 c.apply.new.target (sym there) (c.in_ok-broken.ensures.ok none) put)

-- ---- it isn't listed

pub returns-in_default-get_mut-clause-rule : goal.returns-in_default-get_mut-clause-rule
returns-in_default-get_mut-clause-rule c =
    let es = c.self.inside.listed.entries.items in
    let fs = c.self.inside.mapped.entries in
    let at : position_from 0 c.args.key es ≡ Err c.in_default.field-0 = ap (λ (k : Key). position_from 0 k es) (sym c.as_ref.ensures) ∙ sym c.position.ensures ∙ c.in_default.is in
    let lacks : record_at es c.args.key ≡ None = missing 0 es c.args.key c.in_default.field-0 (rises-first es fs c.self.invariant) at in
    let none : record_at fs c.args.key ≡ None = sym c.in_default-get_mut.ensures.value in
    rw (← c.self.view_is) (c.lacks.ensures ∙ ap (broken_by c.args.what) (sym (in-second es fs c.args.key lacks ∙ none)))

pub returns-in_err-broken-2-clause-err : goal.returns-in_err-broken-2-clause-err
returns-in_err-broken-2-clause-err c = on-err c.from_residual-in_err-broken-2.result (λ q.
    let es = c.self.inside.listed.entries.items in
    let fs = c.self.inside.mapped.entries in
    let at : position_from 0 c.args.key es ≡ Err c.in_default.field-0 = ap (λ (k : Key). position_from 0 k es) (sym c.as_ref.ensures) ∙ sym c.position.ensures ∙ c.in_default.is in
    let lacks : record_at es c.args.key ≡ None = missing 0 es c.args.key c.in_default.field-0 (rises-first es fs c.self.invariant) at in
    let there = c.in-Some.ensures.value in
    let new = c.get_mut.follows.lender c.apply-2.new.target in
    rw (← c.self.view_is)
    (same-there (es ++ fs) (es ++ new.entries) c.args.key c.in-Some.target.now c.apply-2.new.target (there ∙ sym (in-second es fs c.args.key lacks)) c.in_err-broken-2.ensures.err
    (changed-second es fs new.entries c.args.key c.apply-2.new.target lacks ((c.get_mut.follows.holds c.apply-2.new.target).3 (some-is _ _ (sym there))).0) q))

pub returns-clause-rule : goal.returns-clause-rule
returns-clause-rule c =
    let es = c.self.inside.listed.entries.items in
    let fs = c.self.inside.mapped.entries in
    let at : position_from 0 c.args.key es ≡ Err c.in_default.field-0 = ap (λ (k : Key). position_from 0 k es) (sym c.as_ref.ensures) ∙ sym c.position.ensures ∙ c.in_default.is in
    let lacks : record_at es c.args.key ≡ None = missing 0 es c.args.key c.in_default.field-0 (rises-first es fs c.self.invariant) at in
    rw (← c.self.view_is) (c.in_ok-broken-2.ensures.rule ∙ ap (broken_by c.args.what) (c.in-Some.ensures.value ∙ sym (in-second es fs c.args.key lacks)))

pub returns-clause-ok : goal.returns-clause-ok
returns-clause-ok c = λ none.
    let es = c.self.inside.listed.entries.items in
    let fs = c.self.inside.mapped.entries in
    let at : position_from 0 c.args.key es ≡ Err c.in_default.field-0 = ap (λ (k : Key). position_from 0 k es) (sym c.as_ref.ensures) ∙ sym c.position.ensures ∙ c.in_default.is in
    let lacks : record_at es c.args.key ≡ None = missing 0 es c.args.key c.in_default.field-0 (rises-first es fs c.self.invariant) at in
    let there = c.in-Some.ensures.value in
    let new = c.get_mut.follows.lender c.apply-2.new.target in
    rw (← c.self.view_is)
    (changed-there (es ++ fs) (es ++ new.entries) c.args.key c.args.what c.in-Some.target.now c.apply-2.new.target (there ∙ sym (in-second es fs c.args.key lacks)) (c.in_ok-broken-2.ensures.ok none)
    (changed-second es fs new.entries c.args.key c.apply-2.new.target lacks ((c.get_mut.follows.holds c.apply-2.new.target).3 (some-is _ _ (sym there))).0))
