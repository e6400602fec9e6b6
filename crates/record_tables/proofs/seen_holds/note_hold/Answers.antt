use Rattle.std.proofs.Common.{◌∙◌, ◌≡◌, None, Some, ap, rules, sym}
use Rattle.std.specs.Prelude.{is_some}
use Rattle.csv.specs.Records.{fields_of}
use Rattle.record_tables.proofs.RowsBefore.{holds-more, holds-same}
use Rattle.record_tables.proofs.seen_holds.note_hold.Goals as goal

pub returns-in_ok-insert : goal.returns-in_ok-insert
returns-in_ok-insert c = λ before has.
    let some : c.in_ok-hold.field-0 ≡ Some c.in-Some.hold = search rules in
    holds-more before (fields_of c.args.row.now) _ _ c.in-Some.hold (rw some at c.in_ok-hold.ensures.first) (rw some at c.in_ok-hold.ensures.second) c.in_ok-insert.ensures.updates.0 has

pub returns-in_default : goal.returns-in_default
returns-in_default c = λ before has.
    let none : c.in_ok-hold.field-0 ≡ None = search rules in
    holds-same before (fields_of c.args.row.now) _ (sym c.in_ok-hold.ensures.some ∙ ap is_some none) has
