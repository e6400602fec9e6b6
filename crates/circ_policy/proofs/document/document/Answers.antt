use Rattle.std.proofs.Common.{◌∙◌}
use Rattle.circ_policy.proofs.Documents.{no-text, text-document}
use Rattle.circ_policy.proofs.document.document.Goals as goal

pub returns-in_default-clause-err : goal.returns-in_default-clause-err
returns-in_default-clause-err c = no-text c.args.bytes.now c.in_default.ensures.cases.0

pub returns-in-Ok-table_from_str-clause-ok : goal.returns-in-Ok-table_from_str-clause-ok
returns-in-Ok-table_from_str-clause-ok c =
    let cases = c.in-Ok.ensures.cases in
    text-document c.args.bytes.now cases.1 ∙ rw cases.0 at c.in-Ok-table_from_str.ensures.ok
