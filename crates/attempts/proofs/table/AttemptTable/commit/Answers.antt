use Rattle.std.proofs.Common.{◌+◌, ◌-◌, arith, refl}
use Rattle.attempts.specs.declared.counts.Counts.{Counts}
use Rattle.attempts.specs.declared.state.LineState.TheVariants.{Committed}
use Rattle.attempts.specs.States.{States}
use Rattle.attempts.proofs.Counting.{live_row, commits_small, one_live, ended}
use Rattle.attempts.proofs.table.AttemptTable.commit.Goals as goal

pub overflow_add-self : goal.overflow_add-self
overflow_add-self c =
    let s = commits_small c.self.inside.rows.items c.self.inside.counts c.self.invariant in
    search (arith, s)

pub overflow_sub-self : goal.overflow_sub-self
overflow_sub-self c =
    let a = c.self.inside in
    let t : States = record { first = a.first; rows = a.rows.items; counts = a.counts } in
    let r = live_row c.args.self.now t c.args.line c.index_mut.result.now c.self.view_is c.requires c.index_mut.ensures.value in
    one_live a.rows.items a.counts c.self.invariant (c.args.line - a.first) c.index_mut.result.now r.0 r.1

pub invariant_of-self : goal.invariant_of-self
invariant_of-self c =
    let a = c.self.inside in
    let t : States = record { first = a.first; rows = a.rows.items; counts = a.counts } in
    let d : Counts = record { takes = a.counts.takes; failed = a.counts.failed; stops = a.counts.stops; commits = a.counts.commits + 1; live = a.counts.live - 1 } in
    let row = c.index_mut.result.now in
    let r = live_row c.args.self.now t c.args.line row c.self.view_is c.requires c.index_mut.ensures.value in
    let one = one_live a.rows.items a.counts c.self.invariant (c.args.line - a.first) row r.0 r.1 in
    ended a.rows.items a.counts c.self.invariant (c.args.line - a.first) row r.0 r.1 Committed refl d
    refl (omega (arith, c.self.invariant.balance, one)) (omega (arith, one)) (omega arith)
