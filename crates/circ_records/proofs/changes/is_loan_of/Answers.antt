use Rattle.std.proofs.Common.{◌∙◌, ap, sym}
use Rattle.std.proofs.lemmas.Map.Text.{is_eq-slice_cmp}
use Rattle.circ_records.specs.Coherent.{is_loan_of}
use Rattle.circ_records.proofs.changes.is_loan_of.Goals as goal

pub returns-in-Some : goal.returns-in-Some
returns-in-Some c = c.eq.ensures ∙ is_eq-slice_cmp c.args.patron.now c.in-Some.loan.patron ∙ ap (is_loan_of c.args.patron.now) (sym c.in-Some.is)
