use Rattle.std.proofs.Common.{◌-◌}
use Rattle.attempts.specs.States.{States}
use Rattle.attempts.proofs.Counting.{live_row, gone_on}
use Rattle.attempts.proofs.table.AttemptTable.go_on.Goals as goal

pub invariant_of-self : goal.invariant_of-self
invariant_of-self c =
    let a = c.self.inside in
    let t : States = record { first = a.first; rows = a.rows.items; counts = a.counts } in
    let row = c.index_mut.result.now in
    let r = live_row c.args.self.now t c.args.line row c.self.view_is c.requires.old c.index_mut.ensures.value in
    gone_on a.rows.items a.counts c.self.invariant (c.args.line - a.first) row r.0 r.1 c.args.state c.requires.new
