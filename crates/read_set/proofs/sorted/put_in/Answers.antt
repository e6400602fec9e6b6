use Rattle.std.proofs.Common.{ap, arith, length, rules, subst, sym}
use Rattle.read_set.specs.Devices.Drafts.{Rise}
use Rattle.circ_records.proofs.Positions.{inserted, replaced, rises-more}
use Rattle.read_set.proofs.sorted.put_in.Goals as goal

pub index_mut-requires : goal.index_mut-requires
index_mut-requires c =
    let within = (replaced c.args.entries.now.items c.args.key c.args.written c.in-Ok.position (search rules)).0 in
    let long = ap length c.as_slice.ensures.value in
    omega (arith, within, long, c.as_slice.ensures.len)

pub insert-requires : goal.insert-requires
insert-requires c =
    let within = (inserted c.args.entries.now.items c.args.key c.args.written c.in-Err.position (search rules)).0 in
    let long = ap length c.as_slice.ensures.value in
    omega (arith, within, long, c.as_slice.ensures.len)

pub returns-in-Ok-clause-ok : goal.returns-in-Ok-clause-ok
returns-in-Ok-clause-ok c = (replaced c.args.entries.now.items c.args.key c.args.written c.in-Ok.position (search rules)).1

pub returns-in-Ok-clause-rising : goal.returns-in-Ok-clause-rising
returns-in-Ok-clause-rising c =
    subst Rise (sym (replaced c.args.entries.now.items c.args.key c.args.written c.in-Ok.position (search rules)).1) (rises-more c.args.entries.now.items c.args.key c.args.written c.requires)

pub returns-in_ok-insert-in-Err-clause-ok : goal.returns-in_ok-insert-in-Err-clause-ok
returns-in_ok-insert-in-Err-clause-ok c =
    rw c.in_ok-insert-in-Err.ensures.items (inserted c.args.entries.now.items c.args.key c.args.written c.in-Err.position (search rules)).1

pub returns-in_ok-insert-in-Err-clause-rising : goal.returns-in_ok-insert-in-Err-clause-rising
returns-in_ok-insert-in-Err-clause-rising c =
    rw c.in_ok-insert-in-Err.ensures.items
    (subst Rise (sym (inserted c.args.entries.now.items c.args.key c.args.written c.in-Err.position (search rules)).1) (rises-more c.args.entries.now.items c.args.key c.args.written c.requires))
