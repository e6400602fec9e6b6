use Rattle.std.proofs.Common.{◌++◌, ◌∷◌, List, [], codes, map}
use Rattle.why_run.proofs.Plans.{then}
use Rattle.why_run.specs.Plan.{file_step, table_files}
use Rattle.why_run.specs.Writing.{Planned}
use Rattle.why_run.proofs.plan.add_files.Goals as goal

pub returns : goal.returns
returns c =
    let r4 : List Planned = map (file_step c.args.part.now) (table_files c.args.case.now.base) in
    let r3 : List Planned = file_step c.args.part.now (codes "expected/answers.csv", c.args.case.now.answers.items) ∷ [] ++ r4 in
    let r2 : List Planned = file_step c.args.part.now (codes "journal.csv", c.args.case.now.journal.items) ∷ [] ++ r3 in
    then (file_step c.args.part.now (codes "policy.toml", c.args.policy.now) ∷ []) r2 c.args.actions.now.items c.add_file.new.actions.items c.add_tables.new.actions.items c.in_ok-add_file.ensures
    (then (file_step c.args.part.now (codes "journal.csv", c.args.case.now.journal.items) ∷ []) r3 c.add_file.new.actions.items c.add_file-2.new.actions.items c.add_tables.new.actions.items (rw (c.as_slice.ensures.value, c.file-2.ensures) at c.in_ok-add_file-2.ensures)
    (then (file_step c.args.part.now (codes "expected/answers.csv", c.args.case.now.answers.items) ∷ []) r4 c.add_file-2.new.actions.items c.add_file-3.new.actions.items c.add_tables.new.actions.items (rw (c.as_slice-2.ensures.value, c.as_str.ensures.value, c.in_ok-answers.ensures, c.file.ensures) at c.in_ok-add_file-3.ensures)
    c.in_ok-add_tables.ensures))
