use Rattle.std.proofs.Common.{◌≡◌, ◌∙◌}
use Rattle.table_diff.proofs.Keys.{put}
use Rattle.table_diff.proofs.names.put_by_name.Goals as goal

pub returns-in-None-clause-after : goal.returns-in-None-clause-after
returns-in-None-clause-after c = λ name.
    let is : c.in_ok-name.name.items ≡ c.args.row.now.name = c.in_ok-name.ensures.items ∙ c.name.ensures in
    put c.in_ok-name.name.items c.args.by_name.now c.insert.new.self c.args.row is c.in_ok-insert.ensures.updates name
