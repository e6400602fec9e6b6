use Rattle.std.proofs.Common.{◌-◌, ◌+◌, arith, refl, rules}
use Rattle.attempts.specs.declared.counts.Counts.{Counts}
use Rattle.attempts.specs.declared.state.LineState.TheVariants.{Waiting}
use Rattle.attempts.specs.States.{States}
use Rattle.attempts.proofs.Counting.{waiting_row, told_row, within, numbered, takes_small, live_small, begun}
use Rattle.attempts.proofs.table.AttemptTable.take.Goals as goal

pub overflow_add-row : goal.overflow_add-row
overflow_add-row c =
    let a = c.self.inside in
    let t : States = record { first = a.first; rows = a.rows.items; counts = a.counts } in
    let row = c.index-row.result.now in
    let r = waiting_row c.args.self.now t c.args.line row c.self.view_is c.requires c.index-row.ensures in
    let n = numbered a.rows.items a.counts c.self.invariant (c.args.line - a.first) row r.0 in
    let s = n.spent in
    search (arith, s)

pub index_mut-requires : goal.index_mut-requires
index_mut-requires c =
    let a = c.self.inside in
    let t : States = record { first = a.first; rows = a.rows.items; counts = a.counts } in
    let row = c.index-row.result.now in
    let r = waiting_row c.args.self.now t c.args.line row c.self.view_is c.requires c.index-row.ensures in
    let w = within a.rows.items a.counts c.self.invariant (c.args.line - a.first) row r.0 in
    search (rules, w)

pub overflow_add-self : goal.overflow_add-self
overflow_add-self c =
    let s = takes_small c.self.inside.rows.items c.self.inside.counts c.self.invariant in
    search (arith, s)

pub overflow_add-self-2 : goal.overflow_add-self-2
overflow_add-self-2 c =
    let s = live_small c.self.inside.rows.items c.self.inside.counts c.self.invariant in
    search (arith, s)

pub overflow_cast-result : goal.overflow_cast-result
overflow_cast-result c =
    let a = c.self.inside in
    let t : States = record { first = a.first; rows = a.rows.items; counts = a.counts } in
    let row = c.index-row.result.now in
    let r = waiting_row c.args.self.now t c.args.line row c.self.view_is c.requires c.index-row.ensures in
    let n = numbered a.rows.items a.counts c.self.invariant (c.args.line - a.first) row r.0 in
    let s = n.spent in
    let b = c.if-row-eq-ATTEMPTS.false in
    search (arith, s, b)

pub invariant_of-self : goal.invariant_of-self
invariant_of-self c =
    let a = c.self.inside in
    let t : States = record { first = a.first; rows = a.rows.items; counts = a.counts } in
    let d : Counts = record { takes = a.counts.takes + 1; failed = a.counts.failed; stops = a.counts.stops; commits = a.counts.commits; live = a.counts.live + 1 } in
    let row = c.index-row.result.now in
    let r = waiting_row c.args.self.now t c.args.line row c.self.view_is c.requires c.index-row.ensures in
    begun a.rows.items a.counts c.self.invariant (c.args.line - a.first) row r.0 r.1 c.args.worker c.if-row-eq-ATTEMPTS.false d
    refl refl refl (omega (arith, c.self.invariant.balance))

pub returns-clause-some : goal.returns-clause-some
returns-clause-some c =
    let a = c.self.inside in
    let t : States = record { first = a.first; rows = a.rows.items; counts = a.counts } in
    let row = c.index-row.result.now in
    let r = told_row c.args.self.now t c.args.line Waiting row c.self.view_is c.requires c.index-row.ensures in
    (r.0, rw (← c.self.view_is, r.1) refl)
