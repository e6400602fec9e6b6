use Rattle.std.proofs.Common.{◌++◌, ◌∷◌, List, [], codes}
use Rattle.why_run.proofs.Plans.{then}
use Rattle.why_run.specs.Plan.{file_step}
use Rattle.why_run.specs.Writing.{Planned}
use Rattle.why_run.proofs.plan.add_tables.Goals as goal

pub returns : goal.returns
returns c =
    let r6 : List Planned = file_step c.args.part.now (codes "base/holds.csv", c.args.base.now.holds.items) ∷ [] in
    let r5 : List Planned = file_step c.args.part.now (codes "base/closed.csv", c.args.base.now.closed.items) ∷ [] ++ r6 in
    let r4 : List Planned = file_step c.args.part.now (codes "base/fees.csv", c.args.base.now.fees.items) ∷ [] ++ r5 in
    let r3 : List Planned = file_step c.args.part.now (codes "base/loans.csv", c.args.base.now.loans.items) ∷ [] ++ r4 in
    let r2 : List Planned = file_step c.args.part.now (codes "base/items.csv", c.args.base.now.items.items) ∷ [] ++ r3 in
    then (file_step c.args.part.now (codes "base/patrons.csv", c.args.base.now.patrons.items) ∷ []) r2 c.args.actions.now.items c.add_table.new.actions.items c.add_table-6.new.actions.items (rw (c.as_slice.ensures.value) at c.in_ok-add_table.ensures)
    (then (file_step c.args.part.now (codes "base/items.csv", c.args.base.now.items.items) ∷ []) r3 c.add_table.new.actions.items c.add_table-2.new.actions.items c.add_table-6.new.actions.items (rw (c.as_slice-2.ensures.value) at c.in_ok-add_table-2.ensures)
    (then (file_step c.args.part.now (codes "base/loans.csv", c.args.base.now.loans.items) ∷ []) r4 c.add_table-2.new.actions.items c.add_table-3.new.actions.items c.add_table-6.new.actions.items (rw (c.as_slice-3.ensures.value) at c.in_ok-add_table-3.ensures)
    (then (file_step c.args.part.now (codes "base/fees.csv", c.args.base.now.fees.items) ∷ []) r5 c.add_table-3.new.actions.items c.add_table-4.new.actions.items c.add_table-6.new.actions.items (rw (c.as_slice-4.ensures.value) at c.in_ok-add_table-4.ensures)
    (then (file_step c.args.part.now (codes "base/closed.csv", c.args.base.now.closed.items) ∷ []) r6 c.add_table-4.new.actions.items c.add_table-5.new.actions.items c.add_table-6.new.actions.items (rw (c.as_slice-5.ensures.value) at c.in_ok-add_table-5.ensures)
    (rw (c.as_slice-6.ensures.value) at c.in_ok-add_table-6.ensures)))))
