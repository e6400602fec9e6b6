use Rattle.std.proofs.Common.{◌∙◌, ap, Some}
use Rattle.std.specs.Prelude.{cond, is_some}
use Rattle.std.specs.Ordering.{eq_by_cmp}
use Rattle.csv.specs.Records.{fields_of}
use Rattle.circ_records.specs.Keys.{key_cmp}
use Rattle.circ_records.specs.Records.{record_at}
use Rattle.record_tables.specs.Tables.{field}
use Rattle.circ_records.specs.declared.key.Key.TheVariants as key
use Rattle.std.proofs.lemmas.Result.{IfOk-weaker}
use Rattle.record_tables.proofs.Lookups.{is_some-map}
use Rattle.record_tables.proofs.Telling.{tells-patron}
use Rattle.record_tables.proofs.patrons.add_patron.Goals as goal

pub returns-clause-told : goal.returns-clause-told
returns-clause-told c = IfOk-weaker c.put.result _ _ (λ done put r before tells fresh.
    tells-patron r before (fields_of c.args.row.now) c.args.records.now c.put.new.self c.in_ok-told.told tells fresh (c.in_ok-told.ensures ∙ c.in_ok-patron.ensures)
    (λ q. put q ∙ ap (λ k. cond (eq_by_cmp key_cmp (key.Patron k) q) (Some c.in_ok-told.told) (record_at c.args.records.now q)) c.requires.id)) c.put.ensures.put

pub returns-clause-double : goal.returns-clause-double
returns-clause-double c = IfOk-weaker c.put.result _ _ (λ double is r t.
    is ∙ ap is_some (ap (λ k. record_at c.args.records.now (key.Patron k)) c.requires.id ∙ t (key.Patron (field 0 (fields_of c.args.row.now)))) ∙ is_some-map _ _) c.put.ensures.double
