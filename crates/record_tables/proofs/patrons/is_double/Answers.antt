use Rattle.std.proofs.Common.{◌∙◌, ap, sym}
use Rattle.std.specs.Prelude.{is_some}
use Rattle.circ_records.specs.declared.key.Key.TheVariants as key
use Rattle.record_tables.proofs.Lookups.{is_some-map}
use Rattle.record_tables.proofs.patrons.is_double.Goals as goal

pub returns : goal.returns
returns c = λ r t. c.is_some.ensures ∙ sym (is_some-map _ _) ∙ ap is_some (c.get.ensures ∙ t (key.Patron c.args.id.now)) ∙ is_some-map _ _
