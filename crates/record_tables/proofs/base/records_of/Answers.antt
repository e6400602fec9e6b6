use Rattle.std.proofs.Common.{◌∙◌, ap, refl}
use Rattle.record_tables.specs.Base.{first_broken}
use Rattle.record_tables.specs.Read.{rows_in}
use Rattle.circ_records.specs.Records.{Entries, record_at}
use Rattle.record_tables.proofs.Entering.{same-entries}
use Rattle.record_tables.proofs.CoherentBase.{coherent-rows, told-kinds, unbroken}
use Rattle.record_tables.proofs.Stopped.{in-closed, in-fees, in-holds, in-items, in-loans, in-patrons, still-stops}
use Rattle.record_tables.proofs.base.records_of.Goals as goal

pub returns-in_err-add_rows-clause-err : goal.returns-in_err-add_rows-clause-err
returns-in_err-add_rows-clause-err c =
    let source = c.args.source.now in
    still-stops _ _ _ _ c.from_residual-in_err-add_rows.ensures.1 (in-patrons _ source.policy.now source.first source.tables.now c.in_err-add_rows.ensures.err)

pub returns-in_err-add_rows-2-clause-err : goal.returns-in_err-add_rows-2-clause-err
returns-in_err-add_rows-2-clause-err c =
    let source = c.args.source.now in
    still-stops _ _ _ _ c.from_residual-in_err-add_rows-2.ensures.1 (in-items _ source.policy.now source.first source.tables.now (c.in_ok-add_rows.ensures.read, c.in_ok-add_rows.ensures.ok) c.in_err-add_rows-2.ensures.err)

pub returns-in_err-add_rows-3-clause-err : goal.returns-in_err-add_rows-3-clause-err
returns-in_err-add_rows-3-clause-err c =
    let source = c.args.source.now in
    still-stops _ _ _ _ c.from_residual-in_err-add_rows-3.ensures.1 (in-loans _ source.policy.now source.first source.tables.now (c.in_ok-add_rows.ensures.read, c.in_ok-add_rows.ensures.ok) (c.in_ok-add_rows-2.ensures.read, c.in_ok-add_rows-2.ensures.ok) c.in_err-add_rows-3.ensures.err)

pub returns-in_err-add_rows-4-clause-err : goal.returns-in_err-add_rows-4-clause-err
returns-in_err-add_rows-4-clause-err c =
    let source = c.args.source.now in
    still-stops _ _ _ _ c.from_residual-in_err-add_rows-4.ensures.1 (in-fees _ source.policy.now source.first source.tables.now (c.in_ok-add_rows.ensures.read, c.in_ok-add_rows.ensures.ok) (c.in_ok-add_rows-2.ensures.read, c.in_ok-add_rows-2.ensures.ok) (c.in_ok-add_rows-3.ensures.read, c.in_ok-add_rows-3.ensures.ok) c.in_err-add_rows-4.ensures.err)

pub returns-in_err-add_rows-5-clause-err : goal.returns-in_err-add_rows-5-clause-err
returns-in_err-add_rows-5-clause-err c =
    let source = c.args.source.now in
    still-stops _ _ _ _ c.from_residual-in_err-add_rows-5.ensures.1 (in-closed _ source.policy.now source.first source.tables.now (c.in_ok-add_rows.ensures.read, c.in_ok-add_rows.ensures.ok) (c.in_ok-add_rows-2.ensures.read, c.in_ok-add_rows-2.ensures.ok) (c.in_ok-add_rows-3.ensures.read, c.in_ok-add_rows-3.ensures.ok) (c.in_ok-add_rows-4.ensures.read, c.in_ok-add_rows-4.ensures.ok) c.in_err-add_rows-5.ensures.err)

pub returns-in_err-add_rows-6-clause-err : goal.returns-in_err-add_rows-6-clause-err
returns-in_err-add_rows-6-clause-err c =
    let source = c.args.source.now in
    still-stops _ _ _ _ c.from_residual-in_err-add_rows-6.ensures.1 (in-holds _ source.policy.now source.first source.tables.now (c.in_ok-add_rows.ensures.read, c.in_ok-add_rows.ensures.ok) (c.in_ok-add_rows-2.ensures.read, c.in_ok-add_rows-2.ensures.ok) (c.in_ok-add_rows-3.ensures.read, c.in_ok-add_rows-3.ensures.ok) (c.in_ok-add_rows-4.ensures.read, c.in_ok-add_rows-4.ensures.ok) (c.in_ok-add_rows-5.ensures.read, c.in_ok-add_rows-5.ensures.ok) c.in_err-add_rows-6.ensures.err)

pub returns-clause-ok : goal.returns-clause-ok
unfolding first_broken
returns-clause-ok c = rw (c.in_ok-add_rows.ensures.ok, c.in_ok-add_rows-2.ensures.ok, c.in_ok-add_rows-3.ensures.ok, c.in_ok-add_rows-4.ensures.ok, c.in_ok-add_rows-5.ensures.ok, c.in_ok-add_rows-6.ensures.ok) refl

pub returns-clause-told : goal.returns-clause-told
returns-clause-told c = same-entries (rows_in c.args.source.now.tables.now) c.in_ok-records.records c.in_ok-records.ensures.rising (λ k. ap (λ (es : Entries). record_at es k) c.in_ok-records.ensures.same ∙ c.in_ok-add_rows-6.ensures.told k)

pub returns-clause-coherent : goal.returns-clause-coherent
returns-clause-coherent c =
    let source = c.args.source.now in
    let rows = rows_in source.tables.now in
    coherent-rows source.policy.now source.first rows (record_at c.in_ok-records.records)
    (unbroken source.policy.now source.first rows c.in_ok-add_rows.ensures.ok c.in_ok-add_rows-2.ensures.ok c.in_ok-add_rows-3.ensures.ok c.in_ok-add_rows-4.ensures.ok c.in_ok-add_rows-5.ensures.ok c.in_ok-add_rows-6.ensures.ok)
    (λ k. ap (λ (es : Entries). record_at es k) c.in_ok-records.ensures.same ∙ c.in_ok-add_rows-6.ensures.told k)

pub returns-clause-kinds : goal.returns-clause-kinds
returns-clause-kinds c =
    told-kinds (rows_in c.args.source.now.tables.now) (record_at c.in_ok-records.records)
    (λ k. ap (λ (es : Entries). record_at es k) c.in_ok-records.ensures.same ∙ c.in_ok-add_rows-6.ensures.told k)
