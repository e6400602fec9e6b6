use Rattle.std.proofs.Common.{◌++◌, ◌∷◌, List, [], map, string_bytes}
use Rattle.why_run.proofs.Plans.{gets_one, then}
use Rattle.why_run.specs.Actions.{planned}
use Rattle.why_run.specs.Plan.{case_files, case_folders, file_step}
use Rattle.why_run.specs.declared.action.Action.TheVariants as actions
use Rattle.why_run.specs.Writing.{Planned}
use Rattle.why_run.proofs.plan.add_placed.Goals as goal

pub returns : goal.returns
returns c =
    let r3 : List Planned = planned (actions.Place c.args.part c.args.place) ∷ [] in
    let r2 : List Planned = map (file_step (string_bytes c.args.part)) (case_files c.args.policy.now c.args.case.now) ++ r3 in
    then (case_folders (string_bytes c.args.place) (string_bytes c.args.part)) r2 c.args.actions.now.items c.add_folders.new.actions.items c.push.new.self.items (rw (c.as_str.ensures.value, c.as_str-2.ensures.value) at c.in_ok-add_folders.ensures)
    (then (map (file_step (string_bytes c.args.part)) (case_files c.args.policy.now c.args.case.now)) r3 c.add_folders.new.actions.items c.add_files.new.actions.items c.push.new.self.items (rw (c.as_str-3.ensures.value) at c.in_ok-add_files.ensures)
    (gets_one (actions.Place c.args.part c.args.place) c.add_files.new.actions.items c.push.new.self.items c.in_ok-push.ensures.items))
