use Rattle.std.proofs.Common.{◌∙◌, Ok, ap, sym}
use Rattle.record_tables.specs.Base.{◌>>=◌, base_of, first_broken, rows_of, unless_broken}
use Rattle.record_tables.specs.Read.{rows_in}
use Rattle.record_tables.specs.Tables.{Rows}
use Rattle.schema.specs.Texts.{texts_of}
use Rattle.record_tables.specs.Told.{entries_told}
use Rattle.record_tables.proofs.Faults.{fails-first, passed-on}
use Rattle.record_tables.proofs.Stopped.{rule-due, stops-otherwise, tables-read}
use Rattle.record_tables.proofs.base.read_base.Goals as goal

pub returns-in-Ok-clause-told : goal.returns-in-Ok-clause-told
unfolding base_of
returns-in-Ok-clause-told c =
    let rows = rows_in c.args.tables.now in
    ap (λ r. r >>= λ (rows : Rows). unless_broken (first_broken c.args.policy.now c.args.first rows) (entries_told rows)) (tables-read c.args.tables.now c.in-Ok.ensures.read)
    ∙ ap (λ o. unless_broken o (entries_told rows)) c.in-Ok.ensures.ok
    ∙ ap Ok (sym c.in-Ok.ensures.told)

pub returns-in_err-check_tables-in-Err-Rule-clause-told : goal.returns-in_err-check_tables-in-Err-Rule-clause-told
unfolding base_of
returns-in_err-check_tables-in-Err-Rule-clause-told c = passed-on _ _ _ c.from_residual.ensures.1
    (fails-first _ (rows_of (texts_of c.args.tables.now)) (λ rows. unless_broken (first_broken c.args.policy.now c.args.first rows) (entries_told rows)) c.in_err-check_tables-in-Err-Rule.ensures.err)

pub returns-in_ok-check_tables-in-Err-Rule-clause-told : goal.returns-in_ok-check_tables-in-Err-Rule-clause-told
returns-in_ok-check_tables-in-Err-Rule-clause-told c =
    rule-due c.args.policy.now c.args.tables.now c.args.first c.in-Err-Rule.table c.in-Err-Rule.row c.in-Err-Rule.rule c.in-Err-Rule.values
    (rw c.in-Err-Rule.field-0-is at c.in-Err-Rule.ensures.err) c.in_ok-check_tables-in-Err-Rule.ensures.ok

pub returns-in-Err-Table-clause-told : goal.returns-in-Err-Table-clause-told
returns-in-Err-Table-clause-told c =
    stops-otherwise c.args.policy.now c.args.tables.now c.args.first c.in-Err-Table.table (rw c.in-Err-Table.field-0-is at c.in-Err-Table.ensures.err)
